-- A head that the grammar reads passes the tests on its lines.
use Rattle.std.proofs.Common.{◌≡◌, ◌≢◌, ℕ, zero, suc, ◌+◌, ◌-◌, ◌≤◌, Bool, true, false, ◌&&◌, eqb, leb, List, [], ◌∷◌, ◌++◌, length, get_or, take, drop, All, sym, refl, ap, ◌∙◌, arith, cond}
use Rattle.std.specs.Prelude.{IsTrue}
use Rattle.std.specs.List.{before_first, position_or_len}
use Rattle.std.specs.Str.Lines.{strip_carriage_return}
use Rattle.std.proofs.Math.Seq.{drop-append_seam}
use Rattle.std.proofs.lemmas.Grind.{common_steps}
use Rattle.std.proofs.lemmas.List.{append_assoc, append-nil, length-append, length-map, length-take}
use Rattle.std.proofs.lemmas.Bool.{eq-eqb, ne_eqb}
use Rattle.std.proofs.lemmas.List.Elements.{All-head, All-tail, All-weaker}
use Rattle.httparse.specs.declared.spans.HeaderSpan.{HeaderSpan}
use Rattle.httparse.specs.declared.spans.RequestSpans.{RequestSpans}
use Rattle.httparse.specs.Grammar.{is_token_byte, LineEnd, crlf, lf, print_end, print_version, print_section, RequestHead, ReadsRequest}
use Rattle.httparse.specs.Spans.{name_and_value, header_bytes, IsRequestOf}
use Rattle.http_head.specs.Lines.{start_line, is_other_version, ends_in_other_version}
use Rattle.http_head.proofs.GrammarLemmas.{InLine, token_in_line, rest_of_line, rest_in_line, after_blank-token, head_split, lines_of_head}
use Rattle.http_head.proofs.HeadLemmas.{PassesLines}

before_run : (xs ys : List ℕ) → All InLine xs → before_first (λ b. eqb b 10) (xs ++ ys) ≡ xs ++ before_first (λ b. eqb b 10) ys
before_run [] ys h = refl
before_run (x ∷ xs) ys h =
    let n = position_or_len (λ b. eqb b 10) (xs ++ ys) in
    let z : 1 + n ≡ suc n = omega arith in
    rw (ne_eqb x 10 (All-head InLine x xs h)) (ap (λ k. take k (x ∷ (xs ++ ys))) z ∙ ap (λ l. x ∷ l) (before_run xs ys (All-tail InLine x xs h)))

-- what is left of a line end before its line feed
abbrev return_of : LineEnd → List ℕ
return_of crlf = 13 ∷ []
return_of lf = []

before_end : (e : LineEnd) (ys : List ℕ) → before_first (λ b. eqb b 10) (print_end e ++ ys) ≡ return_of e
before_end crlf ys = refl
before_end lf ys = refl

last_of_push : (xs : List ℕ) (b : ℕ) → get_or (xs ++ b ∷ []) (length (xs ++ b ∷ []) - 1) 0 ≡ b
last_of_push xs b = grind (arith, common_steps)

front_of_push : (xs : List ℕ) (b : ℕ) → take (length (xs ++ b ∷ []) - 1) (xs ++ b ∷ []) ≡ xs
front_of_push xs b = grind (arith, common_steps)

strip_return : (xs : List ℕ) → strip_carriage_return (xs ++ 13 ∷ []) ≡ xs
strip_return xs = ap (λ t. cond t (take (length (xs ++ 13 ∷ []) - 1) (xs ++ 13 ∷ [])) (xs ++ 13 ∷ [])) (eq-eqb _ 13 (last_of_push xs 13)) ∙ front_of_push xs 13

strip_other : (xs : List ℕ) (b : ℕ) → b ≢ 13 → strip_carriage_return (xs ++ b ∷ []) ≡ xs ++ b ∷ []
strip_other xs b n =
    ap (λ t. cond t (take (length (xs ++ b ∷ []) - 1) (xs ++ b ∷ [])) (xs ++ b ∷ [])) (ne_eqb _ 13 (λ e. n (sym (last_of_push xs b) ∙ e)))

-- the version 1.0 or 1.1
version_is : (m : ℕ) → m ≤ 1 → is_other_version (print_version m) ≡ false
version_is zero h = refl
version_is (suc zero) h = refl
version_is (suc (suc m)) h = absurd (omega arith)

and_false : (b : Bool) → (b && false) ≡ false
and_false true = refl
and_false false = refl

no_other : (front v : List ℕ) → length v ≡ 8 → is_other_version v ≡ false → ends_in_other_version (front ++ v) ≡ false
no_other front v n e =
    let at : length (front ++ v) - 8 ≡ length front = omega (arith, length-append front v, n) in
    let d : drop (length (front ++ v) - 8) (front ++ v) ≡ v = ap (λ k. drop k (front ++ v)) at ∙ drop-append_seam front v in
    ap (λ w. leb 8 (length (front ++ v)) && is_other_version w) d ∙ ap (λ t. leb 8 (length (front ++ v)) && t) e ∙ and_false (leb 8 (length (front ++ v)))

-- the start line before its version
abbrev front_of : RequestHead → List ℕ
front_of h = h.method ++ 32 ∷ (h.target ++ 32 ∷ [])

line_assoc : (m t v : List ℕ) → m ++ 32 ∷ (t ++ 32 ∷ v) ≡ (m ++ 32 ∷ (t ++ 32 ∷ [])) ++ v
line_assoc m t v = simp append_assoc

push_assoc : (a b c : List ℕ) → a ++ (b ++ c) ≡ (a ++ b) ++ c
push_assoc a b c = simp append_assoc

-- all of the line but its last byte
abbrev most_of : RequestHead → List ℕ
most_of h = front_of h ++ (72 ∷ 84 ∷ 84 ∷ 80 ∷ 47 ∷ 49 ∷ 46 ∷ [])

line_ends : (h : RequestHead) → h.method ++ rest_of_line h ≡ most_of h ++ (48 + h.minor) ∷ []
line_ends h = line_assoc h.method h.target (print_version h.minor) ∙ push_assoc (front_of h) (72 ∷ 84 ∷ 84 ∷ 80 ∷ 47 ∷ 49 ∷ 46 ∷ []) ((48 + h.minor) ∷ [])

stripped : (h : RequestHead) (e : LineEnd) → strip_carriage_return (h.method ++ (rest_of_line h ++ return_of e)) ≡ h.method ++ rest_of_line h
stripped h crlf = ap strip_carriage_return (push_assoc h.method (rest_of_line h) (13 ∷ [])) ∙ strip_return (h.method ++ rest_of_line h)
stripped h lf =
    ap strip_carriage_return (push_assoc h.method (rest_of_line h) [] ∙ line_end) ∙ strip_other (most_of h) (48 + h.minor) (λ e. absurd (omega arith)) ∙ sym (line_ends h)
  where
    line_end : (h.method ++ rest_of_line h) ++ [] ≡ most_of h ++ (48 + h.minor) ∷ []
    line_end = append-nil (h.method ++ rest_of_line h) ∙ line_ends h

start_line_of_head : (bytes : List ℕ) (h : RequestHead) (rest : List ℕ) → ReadsRequest bytes h rest → start_line bytes ≡ h.method ++ rest_of_line h
start_line_of_head bytes h rest r =
    let v = r.0 in
    let tail : List ℕ = print_section h.fields h.last ++ rest in
    let line : All InLine h.method = All-weaker (λ b. IsTrue (is_token_byte b)) InLine token_in_line h.method v.method.1 in
    ap start_line (r.1 ∙ head_split h rest)
    ∙ ap (λ l. strip_carriage_return (before_first (λ b. eqb b 10) l)) (after_blank-token h.blank h.method (rest_of_line h ++ (print_end h.line_end ++ tail)) v.method.0 v.method.1)
    ∙ ap strip_carriage_return (before_run h.method (rest_of_line h ++ (print_end h.line_end ++ tail)) line
    ∙ ap (λ l. h.method ++ l) (before_run (rest_of_line h) (print_end h.line_end ++ tail) (rest_in_line h v) ∙ ap (λ l. rest_of_line h ++ l) (before_end h.line_end tail)))
    ∙ stripped h h.line_end

version_of_head : (bytes : List ℕ) (h : RequestHead) (rest : List ℕ) → ReadsRequest bytes h rest → ends_in_other_version (start_line bytes) ≡ false
version_of_head bytes h rest r =
    ap ends_in_other_version (start_line_of_head bytes h rest r ∙ line_assoc h.method h.target (print_version h.minor))
    ∙ no_other (front_of h) (print_version h.minor) refl (version_is h.minor r.0.minor)

-- a head that was read with room for 64 fields
pub read_passes : (bytes : List ℕ) (spans : List HeaderSpan) (found : RequestSpans) → length spans ≡ 64 → IsRequestOf bytes spans found → PassesLines bytes
read_passes bytes spans found room o =
    let h = o.0 in
    let rest = drop found.len bytes in
    let sizes : length (take found.headers spans) ≡ length h.fields =
    sym (length-map (take found.headers spans) (header_bytes bytes)) ∙ ap length o.1.fields ∙ length-map h.fields name_and_value in
    record {
      few = omega (arith, lines_of_head bytes h rest o.1.reads, sizes, length-take found.headers spans, room);
      version = version_of_head bytes h rest o.1.reads;
    }
