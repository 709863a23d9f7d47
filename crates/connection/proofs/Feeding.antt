-- A body takes up what came.
use Rattle.std.proofs.Common.{◌≡◌, ℕ, ◌+◌, ◌<◌, ◌≤◌, Bool, true, false, not, ◌||◌, cond, List, [], ◌∷◌, ◌++◌, length, map, drop, Option, Some, None, refl, ap, sym, ◌∙◌, append-nil, arith}
use Rattle.std.specs.Prelude.{Result, Ok, Err, OnOk}
use Rattle.chunkqueue.specs.Items.{Item, Byte, FileByte, Contents, items_of, count_of, memory_front}
use Rattle.lt_world.specs.declared.files.FileId.{FileId}
use Rattle.lt_http_body.specs.declared.body.BodyState.{BodyState}
use Rattle.lt_http_body.specs.declared.body.BodyState.TheVariants as body
use Rattle.lt_http_body.specs.declared.body.BodyRefusal.{BodyRefusal}
use Rattle.lt_http_body.specs.declared.body.BodyRefusal.TheVariants as refused
use Rattle.lt_http_body.specs.declared.state.State.{State}
use Rattle.lt_http_body.specs.declared.state.State.TheVariants as state
use Rattle.lt_http_body.specs.declared.standing.Standing.{Standing}
use Rattle.lt_http_body.specs.Standings.{is_over, answer_from}
use Rattle.lt_http_body.specs.Reading.{standing_after, data_in, taken_in}
use Rattle.lt_http_body.specs.Feeding.{AllInMemory, bytes_of, Takes, UnlessNoMemory}
use Rattle.lt_http_body.proofs.FeedingLemmas.{counts_after, memory_after}
use Rattle.server_model.specs.Request.{Head}
use Rattle.server_model.specs.Client.{input_limit}
use Rattle.server_model.specs.Held.{Stage, Awaiting, Heading, Taking, Asking, Answering, Held}
use Rattle.server_model.specs.Steps.{looked, fed, fed_at, advanced, advanced_at, has_no_bytes, has_no_items, is_in_memory}
use Rattle.connection.specs.declared.progress.Progress.{Progress}
use Rattle.connection.specs.declared.progress.Progress.TheVariants as progress
use Rattle.connection.specs.Inside.{stage_by, IsAt, IsContentAt, IsSeen, content_limit}
use Rattle.connection.specs.Progress.{progress_after, has_memory}
use Rattle.connection.specs.Stages.{next_number, next_number_at, feeds, feeds_at}
use Rattle.connection.proofs.Memory.{memory_more, front_more, front_dropped}

pub all_in : (items : List Item) → is_in_memory items ≡ true → AllInMemory items
all_in [] is = tt
all_in (Byte b ∷ items) is = all_in items is
all_in (FileByte file at ∷ items) is = absurd (cc)

all_are : (items : List Item) → AllInMemory items → is_in_memory items ≡ true
all_are [] is = refl
all_are (Byte b ∷ items) is = all_are items is
all_are (FileByte file at ∷ items) is = absurd is

-- ---- nothing came, and the body isn't over

need_more : (s : State) → is_over s ≡ false → answer_from s ≡ Ok body.NeedMore
need_more state.Whole going = absurd (cc)
need_more state.BadChunk going = absurd (cc)
need_more state.TooLarge going = absurd (cc)
need_more other going = refl

nothing_came : (input : List ℕ) (over : Bool) → (not (has_no_bytes input) || over) ≡ false → (input ≡ []) × (over ≡ false)
nothing_came [] over is = (refl, is)
nothing_came (b ∷ input) over is = absurd (cc)

fed_nothing : (k : ℕ) (head : Head) (s : Standing) (content : List ℕ) (held : Held) → Taking k head s content ≡ held.stage → held.input ≡ [] → is_over s.state ≡ false → fed k head s content held ≡ held
unfolding standing_after data_in taken_in
fed_nothing k head s content held is none going =
    ap (λ (l : List ℕ). record held { stage = fed_at k head (answer_from (standing_after s l).state) (standing_after s l) (content ++ data_in s l); input = drop (taken_in s l) l }) none
    ∙ ap (λ (a : Result BodyState BodyRefusal). record held { stage = fed_at k head a s (content ++ []); input = [] }) (need_more s.state going)
    ∙ ap (λ (l : List ℕ). record held { stage = Taking k head s l; input = [] }) (append-nil content)
    ∙ ap (λ (at : Stage). record held { stage = at; input = [] }) is
    ∙ ap (λ (l : List ℕ). record held { input = l }) (sym none)

idle_at : (s : Stage) (held : Held) → s ≡ held.stage → next_number_at s held.owed ≡ None → feeds_at s held.input ≡ false → advanced_at s held ≡ held
idle_at (Awaiting k) held is next idles = absurd (cc)
idle_at (Heading k head) held is next idles = refl
idle_at (Taking k head s content) held is next idles =
    let n = nothing_came held.input (is_over s.state) idles in
    fed_nothing k head s content held is n.0 n.1
idle_at (Asking k r) held is next idles = refl
idle_at (Answering k true) held is next idles = refl
idle_at (Answering k false) held is next idles = by (has_no_items held.owed) next
  where
    by : (t : Bool) → cond t (Some (k + 1)) None ≡ None → cond t (looked (k + 1) held) held ≡ held
    by true none = absurd (cc)
    by false none = refl

-- neither a head is looked for nor a body read
pub idle : (held : Held) → next_number held ≡ None → feeds held ≡ false → held ≡ advanced held
idle held next idles = sym (idle_at held.stage held refl next idles)

-- ---- a body is read

fed_with : (old now : Held) (k : ℕ) (head : Head) (s s' : Standing) (input content input' content' : Contents) (answer : Result BodyState BodyRefusal) (at : Stage) → old ≡ now → old.stage ≡ Taking k head s (memory_front (items_of content))
    → old.input ≡ memory_front (items_of input) → is_in_memory (items_of input) ≡ true → is_in_memory (items_of content) ≡ true → at ≡ fed_at k head answer s' (memory_front (items_of content'))
    → answer ≡ answer_from (standing_after s (bytes_of input)).state → s' ≡ standing_after s (bytes_of input) → items_of content' ≡ items_of content ++ map Byte (data_in s (bytes_of input))
    → items_of input' ≡ drop (taken_in s (bytes_of input)) (items_of input) → record old { stage = at; input = memory_front (items_of input') } ≡ advanced now
fed_with old now k head s s' input content input' content' answer at same stage is memory held given answers stands gains left =
    let bytes : List ℕ = memory_front (items_of input) in
    let before : List ℕ = memory_front (items_of content) in
    let gained : memory_front (items_of content') ≡ before ++ data_in s bytes = ap memory_front gains ∙ front_more (items_of content) (data_in s bytes) held in
    let rest : memory_front (items_of input') ≡ drop (taken_in s bytes) bytes = ap memory_front left ∙ front_dropped (taken_in s bytes) (items_of input) memory in
    ap (λ (x : Stage). record old { stage = x; input = memory_front (items_of input') }) given
    ∙ (λ i. record old { stage = fed_at k head (answers i) (stands i) (gained i); input = rest i })
    ∙ ap (λ (l : List ℕ). record old { stage = fed_at k head (answer_from (standing_after s l).state) (standing_after s l) (before ++ data_in s l); input = drop (taken_in s l) l }) (sym is)
    ∙ ap (λ (x : Stage). advanced_at x old) (sym stage)
    ∙ ap advanced same

pub fed_held : (old now : Held) (k : ℕ) (head : Head) (s s' : Standing) (input content input' content' : Contents) (answer : Result BodyState BodyRefusal) → old ≡ now → old.stage ≡ Taking k head s (memory_front (items_of content))
    → old.input ≡ memory_front (items_of input) → is_in_memory (items_of input) ≡ true → is_in_memory (items_of content) ≡ true
    → UnlessNoMemory answer (answer ≡ answer_from (standing_after s (bytes_of input)).state) → UnlessNoMemory answer (s' ≡ standing_after s (bytes_of input))
    → UnlessNoMemory answer (items_of content' ≡ items_of content ++ map Byte (data_in s (bytes_of input))) → UnlessNoMemory answer (items_of input' ≡ drop (taken_in s (bytes_of input)) (items_of input))
    → has_memory answer ≡ true → record old { stage = stage_by k (progress_after (progress.Taking head s') answer) (memory_front (items_of content')); input = memory_front (items_of input') } ≡ advanced now
fed_held old now k head s s' input content input' content' (Ok body.NeedMore) same stage is memory held answers stands gains left had =
    fed_with old now k head s s' input content input' content' (Ok body.NeedMore) _ same stage is memory held refl answers stands gains left
fed_held old now k head s s' input content input' content' (Ok body.Done) same stage is memory held answers stands gains left had =
    fed_with old now k head s s' input content input' content' (Ok body.Done) _ same stage is memory held refl answers stands gains left
fed_held old now k head s s' input content input' content' (Err refused.BadChunk) same stage is memory held answers stands gains left had =
    fed_with old now k head s s' input content input' content' (Err refused.BadChunk) _ same stage is memory held refl answers stands gains left
fed_held old now k head s s' input content input' content' (Err refused.TooLarge) same stage is memory held answers stands gains left had =
    fed_with old now k head s s' input content input' content' (Err refused.TooLarge) _ same stage is memory held refl answers stands gains left
fed_held old now k head s s' input content input' content' (Err refused.NoMemory) same stage is memory held answers stands gains left had = absurd (cc)

pub fed_rests : (number : ℕ) (head : Head) (s s' : Standing) (answer : Result BodyState BodyRefusal) (output : Contents) (file : Option FileId) → IsAt number (progress.Taking head s) output file
    → IsAt number (progress_after (progress.Taking head s') answer) output file
fed_rests number head s s' (Ok body.NeedMore) output file is = is
fed_rests number head s s' (Ok body.Done) output file is = is.0
fed_rests number head s s' (Err refused.BadChunk) output file is = is.0
fed_rests number head s s' (Err refused.TooLarge) output file is = is.0
fed_rests number head s s' (Err refused.NoMemory) output file is = is

pub fed_empty : (head : Head) (s' : Standing) (answer : Result BodyState BodyRefusal) (content : Contents) → IsContentAt (progress_after (progress.Taking head s') answer) content
fed_empty head s' (Ok body.NeedMore) content = tt
fed_empty head s' (Ok body.Done) content = tt
fed_empty head s' (Err refused.BadChunk) content = tt
fed_empty head s' (Err refused.TooLarge) content = tt
fed_empty head s' (Err refused.NoMemory) content = tt

pub fed_seen : (head : Head) (s' : Standing) (answer : Result BodyState BodyRefusal) (input : Contents) → IsSeen (progress_after (progress.Taking head s') answer) input
fed_seen head s' (Ok body.NeedMore) input = tt
fed_seen head s' (Ok body.Done) input = tt
fed_seen head s' (Err refused.BadChunk) input = tt
fed_seen head s' (Err refused.TooLarge) input = tt
fed_seen head s' (Err refused.NoMemory) input = tt

-- the queues behind a call, whatever it answered
pub record Fed (input' content' : Contents) : Type 0 where
  pub memory : is_in_memory (items_of input') ≡ true
  pub within : count_of input' ≤ input_limit
  pub content : is_in_memory (items_of content') ≡ true
  pub few : count_of content' < content_limit

pub fed_queues : (s s' : Standing) (input content input' content' : Contents) → Takes s input content s' input' content' → is_in_memory (items_of input) ≡ true → count_of input ≤ input_limit → is_in_memory (items_of content) ≡ true
    → count_of content + input_limit < content_limit → Fed input' content'
fed_queues s s' input content input' content' t memory within held room =
    let n = counts_after s s' input content input' content' t in
    record {
      memory = all_are (items_of input') (memory_after s s' input content input' content' t (all_in (items_of input) memory));
      within = omega (arith, n.0, within);
      content = ap is_in_memory t.gained ∙ memory_more (items_of content) t.moved held;
      few = omega (arith, n.1, within, room);
    }

pub if_ok : {T E : Type 0} (r : Result T E) (P Q : Type 0) → OnOk r P → (P → Q) → OnOk r Q
if_ok (Ok x) P Q is gives = gives is
if_ok (Err x) P Q is gives = tt

some_came : (items : List Item) (over : Bool) → is_in_memory items ≡ true → 0 < length items → (not (has_no_bytes (memory_front items)) || over) ≡ true
some_came [] over memory some = absurd (omega (arith, some))
some_came (Byte b ∷ items) over memory some = refl
some_came (FileByte file at ∷ items) over memory some = absurd (cc)

pub feeds_some : (number : ℕ) (p : Progress) (head : Head) (s : Standing) (input : Contents) (content : List ℕ) → p ≡ progress.Taking head s → is_in_memory (items_of input) ≡ true → 0 < count_of input
    → feeds_at (stage_by number p content) (memory_front (items_of input)) ≡ true
feeds_some number p head s input content is memory some =
    ap (λ (q : Progress). feeds_at (stage_by number q content) (memory_front (items_of input))) is ∙ some_came (items_of input) (is_over s.state) memory some
