-- What the fields of a connection keep.
use Rattle.std.proofs.Common.{◌≡◌, ℕ, ◌+◌, ◌-◌, ◌≤◌, Bool, true, false, cond, ◌&&◌, not, List, [], ◌∷◌, ◌++◌, length, map, drop, Option, Some, None, refl, ap, sym, subst, ◌∙◌, length-append, arith}
use Rattle.std.specs.Prelude.{Result, Ok, Err, OnOk, OnErr}
use Rattle.std.proofs.lemmas.List.{length-map, length-drop}
use Rattle.lt_world.specs.declared.files.FileId.{FileId}
use Rattle.chunkqueue.specs.Items.{Item, Byte, Chunk, Memory, Range, Contents, range, items_in, items_of, count_of, staged_in, staged_of, staging_in, staging_of, memory_front}
use Rattle.chunkqueue.proofs.Ranges.{length-range}
use Rattle.server_model.specs.Request.{Front, front_of}
use Rattle.server_model.specs.Client.{input_limit}
use Rattle.server_model.specs.Held.{Held}
use Rattle.server_model.specs.Steps.{received, looked, looked_at, is_in_memory, is_read_at, room_of, has_no_items}
use Rattle.connection.specs.declared.progress.Progress.{Progress}
use Rattle.connection.specs.declared.progress.Progress.TheVariants as progress
use Rattle.connection.specs.declared.looking.Looked.{Looked}
use Rattle.connection.specs.declared.looking.Looked.TheVariants as found
use Rattle.http_head.specs.Scan.{IsScan}
use Rattle.http_head.specs.declared.scan.HeadScan.{HeadScan}
use Rattle.connection.specs.Connection.{Connected}
use Rattle.connection.specs.Inside.{connected_of, stage_by, IsAt, IsContentAt, IsConn, IsSeen}
use Rattle.connection.specs.declared.connection.Conn.TheInside.{Inside}
use Rattle.connection.specs.Stages.{next_number_at}
use Rattle.connection.specs.Looking.{front_with, taken_in, progress_of, IsLooked}
use Rattle.connection.proofs.Memory.{memory_more, front_more, front_length, memory_dropped, front_dropped}

-- ---- what came

room_most : (held : Held) → room_of held ≤ input_limit - length held.input
room_most held = by (is_read_at held.stage && not held.ended)
  where
    by : (t : Bool) → cond t (input_limit - length held.input) 0 ≤ input_limit - length held.input
    by true = omega arith
    by false = omega arith

pub held_short : (c : Inside) (now : Connected) → IsConn c → connected_of c ≡ now → length now.held.input ≤ input_limit
held_short c now is view = omega (arith, ap (λ (x : Connected). length x.held.input) view, front_length (items_of c.input) is.memory, is.within)

-- bytes for which there is room
pub room_within : (held : Held) (input : Contents) (n : ℕ) → memory_front (items_of input) ≡ held.input → is_in_memory (items_of input) ≡ true → count_of input ≤ input_limit → n ≤ room_of held
    → count_of input + n ≤ input_limit
room_within held input n is memory within fits = omega (arith, room_most held, ap length is, front_length (items_of input) memory, within, fits)

pub room_is : (old now : Held) (n : ℕ) → old ≡ now → is_read_at old.stage ≡ true → old.ended ≡ false → length old.input ≡ n → input_limit - n ≡ room_of now
room_is old now n is reads stays size =
    ap (λ (m : ℕ). input_limit - m) (sym size)
    ∙ ap (λ (t : Bool). cond t (input_limit - length old.input) 0) (sym (ap (λ (t : Bool). t && not old.ended) reads ∙ ap not stays))
    ∙ ap room_of is

-- bytes come behind
pub got_memory : (before after : Contents) (bytes : List ℕ) → items_of after ≡ items_of before ++ map Byte bytes → is_in_memory (items_of before) ≡ true → is_in_memory (items_of after) ≡ true
got_memory before after bytes is memory = ap is_in_memory is ∙ memory_more (items_of before) bytes memory

pub got_within : (before after : Contents) (bytes : List ℕ) → items_of after ≡ items_of before ++ map Byte bytes → count_of before + length bytes ≤ input_limit → count_of after ≤ input_limit
got_within before after bytes is fits = omega (arith, ap (λ (l : List Item). length l) is, length-append (items_of before) (map Byte bytes), length-map bytes Byte, fits)

pub got_held : (old now : Held) (before after : Contents) (bytes : List ℕ) → items_of after ≡ items_of before ++ map Byte bytes → is_in_memory (items_of before) ≡ true → memory_front (items_of before) ≡ old.input → old ≡ now
    → record old { input = memory_front (items_of after) } ≡ received now bytes
got_held old now before after bytes ok memory is same =
    ap (λ (l : List ℕ). record old { input = l }) (ap memory_front ok ∙ front_more (items_of before) bytes memory ∙ ap (λ (l : List ℕ). l ++ bytes) is)
    ∙ ap (λ (h : Held). received h bytes) same

-- no head is awaited
pub got_unseen : (p : Progress) (input : Contents) → ((scan : HeadScan) → p ≡ progress.Awaiting scan → ⊥) → IsSeen p input
got_unseen (progress.Awaiting scan) input not = absurd (not scan refl)
got_unseen (progress.Heading request) input not = tt
got_unseen (progress.Taking request s) input not = tt
got_unseen (progress.Whole request) input not = tt
got_unseen (progress.Refused status) input not = tt
got_unseen (progress.Declined status request) input not = tt
got_unseen (progress.Answering last) input not = tt

-- what is seen of it
pub got_seen : (before after : Contents) (bytes : List ℕ) (old new : HeadScan) → items_of after ≡ items_of before ++ map Byte bytes → is_in_memory (items_of before) ≡ true
    → IsScan (memory_front (items_of before)) old → ((b : List ℕ) → IsScan b old → IsScan (b ++ bytes) new) → IsScan (memory_front (items_of after)) new
got_seen before after bytes old new is memory seen sees =
    subst (λ (l : List ℕ). IsScan l new) (sym (ap memory_front is ∙ front_more (items_of before) bytes memory)) (sees (memory_front (items_of before)) seen)

-- ---- what is owed

-- no more is staged than is there
staging_most : (chunks : List Chunk) → length (staged_in chunks) ≤ length (items_in chunks) → staging_in chunks ≤ length (items_in chunks)
staging_most [] within = omega arith
staging_most (Memory bytes ∷ chunks) within = omega arith
staging_most (Range file start len [] ∷ chunks) within = omega (arith, length-append (range file start len) (items_in chunks), length-range file start len)
staging_most (Range file start len (b ∷ staged) ∷ chunks) within = within

pub staged_within : {T E : Type 0} (r : Result T E) (before after : Contents) → items_of after ≡ items_of before → OnOk r (length (staged_of after) ≡ staging_of before) → OnErr r (after ≡ before)
    → length (staged_of before) ≤ count_of before → length (staged_of after) ≤ count_of after
staged_within (Ok x) before after items ok err within = omega (arith, ap (λ (l : List Item). length l) items, ok, staging_most before.chunks within)
staged_within (Err x) before after items ok err within = subst (λ (q : Contents). length (staged_of q) ≤ count_of q) (sym err) within

pub rests_same : (number : ℕ) (p : Progress) (before after : Contents) (file : Option FileId) → items_of after ≡ items_of before → IsAt number p before file → IsAt number p after file
rests_same number (progress.Awaiting scan) before after file items is = (items ∙ is.0, is.1)
rests_same number (progress.Heading request) before after file items is = (items ∙ is.0, is.1)
rests_same number (progress.Taking request s) before after file items is = (omega (arith, ap (λ (l : List Item). length l) items, is.0), is.1)
rests_same number (progress.Whole request) before after file items is = omega (arith, ap (λ (l : List Item). length l) items, is)
rests_same number (progress.Refused status) before after file items is = omega (arith, ap (λ (l : List Item). length l) items, is)
rests_same number (progress.Declined status request) before after file items is = omega (arith, ap (λ (l : List Item). length l) items, is)
rests_same number (progress.Answering last) before after file items is = ((λ none. is.0 (sym items ∙ none)), is.1)

-- ---- the next request

none_owed : (items : List Item) (k n : ℕ) → cond (has_no_items items) (Some k) None ≡ Some n → items ≡ []
none_owed [] k n is = refl
none_owed (item ∷ items) k n is = cc

-- a request is looked for once nothing is owed, and no content is held then
pub next_rests : (number : ℕ) (p : Progress) (content : List ℕ) (output : Contents) (file : Option FileId) (n : ℕ) → next_number_at (stage_by number p content) (items_of output) ≡ Some n → IsAt number p output file
    → (items_of output ≡ []) × (file ≡ None)
next_rests number (progress.Awaiting scan) content output file n next is = is
next_rests number (progress.Heading request) content output file n next is = absurd (cc)
next_rests number (progress.Taking request s) content output file n next is = absurd (cc)
next_rests number (progress.Whole request) content output file n next is = absurd (cc)
next_rests number (progress.Refused status) content output file n next is = absurd (cc)
next_rests number (progress.Declined status request) content output file n next is = absurd (cc)
next_rests number (progress.Answering true) content output file n next is = absurd (cc)
next_rests number (progress.Answering false) content output file n next is =
    let none = none_owed (items_of output) (number + 1) n next in (none, is.0 none)

pub next_empty : (number : ℕ) (p : Progress) (content : List ℕ) (body : Contents) (owed : List Item) (n : ℕ) → next_number_at (stage_by number p content) owed ≡ Some n → IsContentAt p body → items_of body ≡ []
next_empty number (progress.Awaiting scan) content body owed n next is = is
next_empty number (progress.Heading request) content body owed n next is = is
next_empty number (progress.Taking request s) content body owed n next is = absurd (cc)
next_empty number (progress.Whole request) content body owed n next is = absurd (cc)
next_empty number (progress.Refused status) content body owed n next is = is
next_empty number (progress.Declined status request) content body owed n next is = absurd (cc)
next_empty number (progress.Answering last) content body owed n next is = is

pub found_rests : (n : ℕ) (f : Looked) (scan : HeadScan) (output : Contents) (file : Option FileId) → (items_of output ≡ []) × (file ≡ None) → IsAt n (progress_of f scan) output file
found_rests n found.Unfinished scan output file is = is
found_rests n (found.Refused status) scan output file is = omega (arith, ap (λ (l : List Item). length l) is.0)
found_rests n (found.Headed request taken) scan output file is = is

-- a head that isn't whole is awaited with what was seen
pub found_seen : (f : Looked) (scan : HeadScan) (before after : Contents) → items_of after ≡ drop (taken_in f) (items_of before) → IsScan (memory_front (items_of before)) scan → IsSeen (progress_of f scan) after
found_seen found.Unfinished scan before after is seen = subst (λ (l : List Item). IsScan (memory_front l) scan) (sym is) seen
found_seen (found.Refused status) scan before after is seen = tt
found_seen (found.Headed request taken) scan before after is seen = tt

pub found_empty : (f : Looked) (scan : HeadScan) (body : Contents) → items_of body ≡ [] → IsContentAt (progress_of f scan) body
found_empty found.Unfinished scan body is = is
found_empty (found.Refused status) scan body is = is
found_empty (found.Headed request taken) scan body is = is

looked_with : (k : ℕ) (f : Looked) (scan : HeadScan) (content : List ℕ) (old : Held) → record old { stage = stage_by k (progress_of f scan) content; input = drop (taken_in f) old.input } ≡ looked_at k (front_with f (drop (taken_in f) old.input)) old
looked_with k found.Unfinished scan content old = refl
looked_with k (found.Refused status) scan content old = refl
looked_with k (found.Headed request taken) scan content old = refl

-- what was found is within what came
pub taken_fits : (input : Contents) (f : Looked) → is_in_memory (items_of input) ≡ true → IsLooked (memory_front (items_of input)) f → taken_in f ≤ count_of input
taken_fits input f memory is = omega (arith, is.within, front_length (items_of input) memory)

pub skipped_memory : (before after : Contents) (n : ℕ) → items_of after ≡ drop n (items_of before) → is_in_memory (items_of before) ≡ true → is_in_memory (items_of after) ≡ true
skipped_memory before after n is memory = ap is_in_memory is ∙ memory_dropped n (items_of before) memory

pub skipped_within : (before after : Contents) (n : ℕ) → items_of after ≡ drop n (items_of before) → count_of before ≤ input_limit → count_of after ≤ input_limit
skipped_within before after n is within = omega (arith, ap (λ (l : List Item). length l) is, length-drop n (items_of before), within)

pub taken_up : (old now : Held) (k : ℕ) (f : Looked) (scan : HeadScan) (content : List ℕ) (before after : Contents) → old ≡ now → memory_front (items_of before) ≡ old.input → is_in_memory (items_of before) ≡ true
    → IsLooked (memory_front (items_of before)) f → items_of after ≡ drop (taken_in f) (items_of before)
    → record old { stage = stage_by k (progress_of f scan) content; input = memory_front (items_of after) } ≡ looked k now
taken_up old now k f scan content before after same is memory was items =
    let rest : memory_front (items_of after) ≡ drop (taken_in f) old.input = ap memory_front items ∙ front_dropped (taken_in f) (items_of before) memory ∙ ap (drop (taken_in f)) is in
    let front : front_of old.input ≡ front_with f (drop (taken_in f) old.input) = subst (λ (l : List ℕ). front_of l ≡ front_with f (drop (taken_in f) l)) is was.front in
    ap (λ (l : List ℕ). record old { stage = stage_by k (progress_of f scan) content; input = l }) rest ∙ looked_with k f scan content old ∙ ap (λ (at : Front). looked_at k at old) (sym front) ∙ ap (looked k) same
