-- The laws on what bytes say.
use Rattle.std.proofs.Common.{◌≡◌, suc, ℕ, ◌+◌, ◌-◌, ◌/◌, ◌%◌, ◌<◌, ◌==◌, Bool, true, false, cond, List, [], ◌∷◌, ◌++◌, length, take, refl, ap, sym, subst, ◌∙◌, append_assoc, append-nil, length-append, length-drop, take_all, arith}
use Rattle.std.proofs.lemmas.Bool.{cond_both, eqb-false}
use Rattle.fcgi_records.specs.declared.header.Header.{Header}
use Rattle.fcgi_records.specs.declared.state.Cause.{Cause}
use Rattle.fcgi_records.specs.declared.state.State.{State}
use Rattle.fcgi_records.specs.declared.state.State.TheVariants as state
use Rattle.fcgi_records.specs.States.{number, step, judged, by_kind, is_broken, kept_from, in_padding, in_stdout, in_stderr, in_status, in_unused, in_end_padding, after_protocol, answer_from}
use Rattle.fcgi_records.specs.Sound.{IsSoundState}
use Rattle.fcgi_records.specs.Reading.{state_after, stdout_in, taken_in, Done, Broken, said_at, said, answer_of}
use Rattle.fcgi_records.specs.Grammar.{Stdout, Piece, Ending, Answer, ArePieces, IsAnswer, print_pieces, print_ending, print, stdout_of}
use Rattle.fcgi_records.specs.Encoded.{header_of}
use Rattle.fcgi_records.specs.Laws.{Spells, IsRefused, records_of, AreShort, joined, served}
use Rattle.fcgi_records.proofs.ReadingLemmas.{rests, own_all, broken_cases}
use Rattle.fcgi_records.proofs.Moving.{Goes, goes_on}
use Rattle.fcgi_records.proofs.Printed.{pieces_then, ending_then, break_then}
use Rattle.fcgi_records.proofs.Held.{held_nothing, pieces_append}
use Rattle.fcgi_records.proofs.Told.{IsWhole, Told, told_step}

-- what holds of each state holds one byte further
some_left : (n : ℕ) → (n == 0) ≡ false → 0 < n
some_left n some = let other = eqb-false n 0 some in omega (arith, other)

sound_padding : (left : ℕ) → IsSoundState (in_padding left)
sound_padding left = cond_both (left == 0) state.Version (state.Padding left) IsSoundState (λ none. tt) (λ some. some_left left some)

sound_stdout : (left padding : ℕ) → IsSoundState (in_stdout left padding)
sound_stdout left padding = cond_both (left == 0) (in_padding padding) (state.Stdout left padding) IsSoundState (λ none. sound_padding padding) (λ some. some_left left some)

sound_stderr : (left padding : ℕ) → IsSoundState (in_stderr left padding)
sound_stderr left padding = cond_both (left == 0) (in_padding padding) (state.Stderr left padding) IsSoundState (λ none. sound_padding padding) (λ some. some_left left some)

sound_end : (left : ℕ) → IsSoundState (in_end_padding left)
sound_end left = cond_both (left == 0) state.Whole (state.EndPadding left) IsSoundState (λ none. tt) (λ some. some_left left some)

sound_unused : (left padding : ℕ) → IsSoundState (in_unused left padding)
sound_unused left padding = cond_both (left == 0) (in_end_padding padding) (state.Unused left padding) IsSoundState (λ none. sound_end padding) (λ some. some_left left some)

sound_status : (left padding : ℕ) → IsSoundState (in_status left padding)
sound_status left padding = cond_both (left == 0) (state.ProtocolStatus padding) (state.Status left padding) IsSoundState (λ none. tt) (λ some. some_left left some)

sound_protocol : (b padding : ℕ) → IsSoundState (after_protocol b padding)
sound_protocol b padding = cond_both (b == 0) (in_unused 3 padding) _ IsSoundState (λ is. sound_unused 3 padding) (λ other. tt)

sound_judged : (h : Header) → IsSoundState (judged h)
sound_judged h =
    cond_both (h.version == 1) (cond (number h.id_high h.id_low == 1) (by_kind h) _) _ IsSoundState
    (λ one. cond_both (number h.id_high h.id_low == 1) (by_kind h) _ IsSoundState
    (λ id. cond_both (h.kind == 6) (in_stdout (number h.length_high h.length_low) h.padding) _ IsSoundState (λ is. sound_stdout (number h.length_high h.length_low) h.padding)
    (λ six. cond_both (h.kind == 7) (in_stderr (number h.length_high h.length_low) h.padding) _ IsSoundState (λ is. sound_stderr (number h.length_high h.length_low) h.padding)
    (λ seven. cond_both (h.kind == 3) (cond (number h.length_high h.length_low == 8) (state.Status 4 h.padding) _) _ IsSoundState
    (λ is. cond_both (number h.length_high h.length_low == 8) (state.Status 4 h.padding) _ IsSoundState (λ eight. omega arith) (λ other. tt))
    (λ three. tt))))
    (λ other. tt))
    (λ other. tt)

sound_step : (s : State) (b : ℕ) → IsSoundState s → IsSoundState (step s b)
unfolding step
sound_step (state.Reserved h) b sound = sound_judged h
sound_step (state.Stdout left padding) b sound = sound_stdout (left - 1) padding
sound_step (state.Stderr left padding) b sound = sound_stderr (left - 1) padding
sound_step (state.Padding left) b sound = sound_padding (left - 1)
sound_step (state.Status left padding) b sound = sound_status (left - 1) padding
sound_step (state.ProtocolStatus padding) b sound = sound_protocol b padding
sound_step (state.Unused left padding) b sound = sound_unused (left - 1) padding
sound_step (state.EndPadding left) b sound = sound_end (left - 1)
sound_step other b sound = tt

-- all that is read is told
told_after : (bytes : List ℕ) (s : State) (front out : List ℕ) → IsSoundState s → Told s front out → Told (state_after s bytes) (front ++ take (taken_in s bytes) bytes) (out ++ stdout_in s bytes)
unfolding state_after stdout_in taken_in
told_after [] s front out sound t = subst (λ (l : List ℕ). Told s l (out ++ [])) (sym (append-nil front)) (subst (λ (l : List ℕ). Told s front l) (sym (append-nil out)) t)
told_after (b ∷ bytes) s front out sound t =
    broken_cases s (Told (state_after (step s b) bytes) (front ++ take (cond (is_broken s) 0 1 + taken_in (step s b) bytes) (b ∷ bytes)) (out ++ (kept_from s b ++ stdout_in (step s b) bytes)))
    (λ broken. stay s broken t (rests s (b ∷ bytes) broken))
    (λ going.
    let next : Told (state_after (step s b) bytes) ((front ++ b ∷ []) ++ take (taken_in (step s b) bytes) bytes) ((out ++ kept_from s b) ++ stdout_in (step s b) bytes) =
    told_after bytes (step s b) (front ++ b ∷ []) (out ++ kept_from s b) (sound_step s b sound) (told_step s b front out sound going t) in
    let count : cond (is_broken s) 0 1 + taken_in (step s b) bytes ≡ suc (taken_in (step s b) bytes) = ap (λ (x : Bool). cond x 0 1 + taken_in (step s b) bytes) going ∙ omega arith in
    let whole : (front ++ b ∷ []) ++ take (taken_in (step s b) bytes) bytes ≡ front ++ take (cond (is_broken s) 0 1 + taken_in (step s b) bytes) (b ∷ bytes) =
    append_assoc front (b ∷ []) (take (taken_in (step s b) bytes) bytes) ∙ ap (λ (n : ℕ). front ++ take n (b ∷ bytes)) (sym count) in
    subst (λ (l : List ℕ). Told (state_after (step s b) bytes) l (out ++ (kept_from s b ++ stdout_in (step s b) bytes))) whole
    (subst (λ (l : List ℕ). Told (state_after (step s b) bytes) ((front ++ b ∷ []) ++ take (taken_in (step s b) bytes) bytes) l) (append_assoc out (kept_from s b) (stdout_in (step s b) bytes)) next))
  where
    stay : (s : State) → is_broken s ≡ true → Told s front out → (state_after s (b ∷ bytes) ≡ s) × (stdout_in s (b ∷ bytes) ≡ []) × (taken_in s (b ∷ bytes) ≡ 0)
        → Told (state_after s (b ∷ bytes)) (front ++ take (taken_in s (b ∷ bytes)) (b ∷ bytes)) (out ++ stdout_in s (b ∷ bytes))
    stay s broken t r =
        subst (λ (x : State). Told x (front ++ take (taken_in s (b ∷ bytes)) (b ∷ bytes)) (out ++ stdout_in s (b ∷ bytes))) (sym r.0)
        (subst (λ (l : List ℕ). Told s (front ++ take (taken_in s (b ∷ bytes)) (b ∷ bytes)) (out ++ l)) (sym r.1)
        (subst (λ (n : ℕ). Told s (front ++ take n (b ∷ bytes)) (out ++ [])) (sym r.2)
        (subst (λ (l : List ℕ). Told s l (out ++ [])) (sym (append-nil front)) (subst (λ (l : List ℕ). Told s front l) (sym (append-nil out)) t))))

pub told_all : (bytes : List ℕ) → Told (state_after state.Version bytes) (take (taken_in state.Version bytes) bytes) (stdout_in state.Version bytes)
told_all bytes = told_after bytes state.Version [] [] tt (record { tail = []; extra = []; held = held_nothing; tells = (refl, refl) })

-- what is said tells the state
done_at : (s : State) (stdout out : List ℕ) → said_at s stdout ≡ Done out → (s ≡ state.Whole) × (stdout ≡ out)
done_at state.Whole stdout out e = (refl, cc)
done_at (state.Broken why) stdout out e = cc
done_at other stdout out e = cc

broken_at : (s : State) (stdout out : List ℕ) (why : Cause) → said_at s stdout ≡ Broken why out → (s ≡ state.Broken why) × (stdout ≡ out)
broken_at state.Whole stdout out why e = cc
broken_at (state.Broken cause) stdout out why e = (cc, cc)
broken_at other stdout out why e = cc

-- an answer that is read is spelled
pub read_spelled : (bytes stdout : List ℕ) → said bytes ≡ Done stdout → Spells bytes stdout
read_spelled bytes stdout done =
    let d = done_at (state_after state.Version bytes) (stdout_in state.Version bytes) stdout done in
    let count : taken_in state.Version bytes ≡ length bytes = own_all state.Version bytes (ap is_broken d.0) in
    let t : Told state.Whole (take (taken_in state.Version bytes) bytes) (stdout_in state.Version bytes) = subst (λ (s : State). Told s (take (taken_in state.Version bytes) bytes) (stdout_in state.Version bytes)) d.0 (told_all bytes) in
    let w : IsWhole t.tail = t.tells.0 in
    record {
      answer = record { pieces = t.held.pieces; ending = w.ending };
      is = record { pieces = t.held.are; ending = w.is };
      spelled = sym (take_all (taken_in state.Version bytes) bytes (omega (arith, count))) ∙ t.held.spelled ∙ ap (print_pieces t.held.pieces) w.spelled;
      carries = sym d.1 ∙ t.held.carries ∙ ap (λ (l : List ℕ). stdout_of t.held.pieces ++ l) t.tells.1 ∙ append-nil (stdout_of t.held.pieces);
    }

-- what is refused is so for its cause
pub refused_spelled : (bytes stdout : List ℕ) (why : Cause) → said bytes ≡ Broken why stdout → IsRefused why (take (taken_in state.Version bytes) bytes) stdout
refused_spelled bytes stdout why broken =
    let d = broken_at (state_after state.Version bytes) (stdout_in state.Version bytes) stdout why broken in
    let t : Told (state.Broken why) (take (taken_in state.Version bytes) bytes) (stdout_in state.Version bytes) = subst (λ (s : State). Told s (take (taken_in state.Version bytes) bytes) (stdout_in state.Version bytes)) d.0 (told_all bytes) in
    record {
      pieces = t.held.pieces;
      tail = t.tail;
      are = t.held.are;
      breaks = t.tells.0;
      spelled = t.held.spelled;
      carries = sym d.1 ∙ t.held.carries ∙ ap (λ (l : List ℕ). stdout_of t.held.pieces ++ l) t.tells.1 ∙ append-nil (stdout_of t.held.pieces);
    }

-- an answer that is spelled is read
said_is : (bytes : List ℕ) (s : State) (out : List ℕ) → state_after state.Version bytes ≡ s → stdout_in state.Version bytes ≡ out → said bytes ≡ said_at s out
said_is bytes s out stands reads = ap (λ (x : State). said_at x (stdout_in state.Version bytes)) stands ∙ ap (said_at s) reads

nothing_more : (s : State) → (state_after s [] ≡ s) × (stdout_in s [] ≡ [])
unfolding state_after stdout_in
nothing_more s = (refl, refl)

pub spelled_read : (answer : Answer) → IsAnswer answer → said (print answer) ≡ Done (stdout_of answer.pieces)
spelled_read answer is =
    let out : List ℕ = stdout_of answer.pieces in
    let g : Goes state.Version (print answer) (out ++ []) state.Whole [] = goes_on state.Version state.Version state.Whole (print answer) (print_ending answer.ending []) [] out []
    (pieces_then answer.pieces (print_ending answer.ending []) is.pieces) (ending_then answer.ending [] is.ending) in
    let n = nothing_more state.Whole in
    said_is (print answer) state.Whole out (g.stands ∙ n.0) (g.reads ∙ ap (λ (l : List ℕ). (out ++ []) ++ l) n.1 ∙ append-nil (out ++ []) ∙ append-nil out)

-- what is refused is refused whatever comes behind
pub spelled_refused : (bytes stdout more : List ℕ) (why : Cause) → IsRefused why bytes stdout → (said (bytes ++ more) ≡ Broken why stdout) × (taken_in state.Version (bytes ++ more) ≡ length bytes)
spelled_refused bytes stdout more why r =
    let out : List ℕ = stdout_of r.pieces in
    let s : State = state.Broken why in
    let same : bytes ++ more ≡ print_pieces r.pieces (r.tail ++ more) = ap (λ (l : List ℕ). l ++ more) r.spelled ∙ pieces_append r.pieces r.tail more in
    let g : Goes state.Version (bytes ++ more) (out ++ []) s more = subst (λ (l : List ℕ). Goes state.Version l (out ++ []) s more) (sym same)
    (goes_on state.Version state.Version s (print_pieces r.pieces (r.tail ++ more)) (r.tail ++ more) more out [] (pieces_then r.pieces (r.tail ++ more) r.are) (break_then why r.tail more r.breaks)) in
    let n = rests s more refl in
    let left : length more ≡ length bytes + length more - g.count = sym (ap length g.left) ∙ length-drop g.count (bytes ++ more) ∙ ap (λ (k : ℕ). k - g.count) (length-append bytes more) in
    let count : g.count ≡ length bytes = omega (arith, left, g.within, length-append bytes more) in
    (said_is (bytes ++ more) s stdout (g.stands ∙ n.0) (g.reads ∙ ap (λ (l : List ℕ). (out ++ []) ++ l) n.1 ∙ append-nil (out ++ []) ∙ append-nil out ∙ sym r.carries), omega (arith, g.counts, n.2, count))

-- what is written is read
abbrev piece_of : List ℕ → Piece
piece_of content = record { source = Stdout; high = length content / 256; low = length content % 256; reserved = 0; content = content; padding = [] }

abbrev pieces_of : List (List ℕ) → List Piece
pieces_of [] = []
pieces_of (content ∷ contents) = piece_of content ∷ pieces_of contents

pieces_written : (contents : List (List ℕ)) (rest : List ℕ) → records_of contents rest ≡ print_pieces (pieces_of contents) rest
pieces_written [] rest = refl
pieces_written (content ∷ contents) rest = ap (λ (l : List ℕ). header_of 6 (length content) ++ (content ++ l)) (pieces_written contents rest)

pieces_are : (contents : List (List ℕ)) → ArePieces (pieces_of contents)
pieces_are [] = tt
pieces_are (content ∷ contents) = (omega arith, pieces_are contents)

pieces_carry : (contents : List (List ℕ)) → stdout_of (pieces_of contents) ≡ joined contents
pieces_carry [] = refl
pieces_carry (content ∷ contents) = ap (λ (l : List ℕ). content ++ l) (pieces_carry contents)

pub written_read : (contents : List (List ℕ)) → AreShort contents → said (records_of contents served) ≡ Done (joined contents)
written_read contents short =
    let ending : Ending = record { reserved = 0; status = 0 ∷ 0 ∷ 0 ∷ 0 ∷ []; unused = 0 ∷ 0 ∷ 0 ∷ []; padding = [] } in
    let answer : Answer = record { pieces = pieces_of contents; ending = ending } in
    let is : IsAnswer answer = record { pieces = pieces_are contents; ending = record { status = refl; unused = refl } } in
    ap said (pieces_written contents served) ∙ spelled_read answer is ∙ ap Done (pieces_carry contents)

-- what is answered is what is said
answer_at : (s : State) (out : List ℕ) → answer_from s ≡ answer_of (said_at s out)
answer_at state.Whole out = refl
answer_at (state.Broken why) out = refl
answer_at other out = refl

pub said_answer : (bytes : List ℕ) → answer_from (state_after state.Version bytes) ≡ answer_of (said bytes)
said_answer bytes = answer_at (state_after state.Version bytes) (stdout_in state.Version bytes)
