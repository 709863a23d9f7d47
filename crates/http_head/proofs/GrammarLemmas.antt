-- The lines of a head that the grammar reads: one for each field.
use Rattle.std.proofs.Common.{◌≡◌, ◌≢◌, ℕ, zero, suc, ◌+◌, ◌-◌, ◌<◌, true, false, List, [], ◌∷◌, ◌++◌, length, All, Some, sym, refl, ap, ◌∙◌, arith, subst}
use Rattle.std.specs.Prelude.{option_map, IsTrue}
use Rattle.std.specs.List.{flat_map}
use Rattle.std.proofs.lemmas.List.{append_assoc, length-append}
use Rattle.std.proofs.lemmas.Bool.{ne_eqb, false≢true}
use Rattle.std.proofs.lemmas.List.Elements.{All-head, All-tail, All-append, All-cons, All-weaker, All-from_recursion}
use Rattle.httparse.specs.Grammar.{is_token_byte, is_uri_byte, is_value_byte, AllPass, LineEnd, crlf, lf, print_end, print_blank, print_version, Field, print_field, IsField, print_section, RequestHead, print_request, IsRequestHead, ReadsRequest}
use Rattle.httparse.specs.Pieces.{is_newline}
use Rattle.httparse.proofs.PieceLemmas.{token_is_no_newline}
use Rattle.http_head.proofs.LineLemmas.{length_to_end_line}
use Rattle.http_head.specs.Lines.{after_blank, length_to_end, lines_to_end, end_of, field_lines}

-- no line feed, and no CR
abbrev pub InLine : ℕ → Type 0
InLine b = b ≢ 10

abbrev pub Starts : ℕ → Type 0
Starts b = (b ≢ 10) × (b ≢ 13)

pub token_starts : (b : ℕ) → IsTrue (is_token_byte b) → Starts b
token_starts b t =
    let n : is_newline b ≡ false = token_is_no_newline b t in
    (λ e. absurd (false≢true (sym n ∙ ap is_newline e)), λ e. absurd (false≢true (sym n ∙ ap is_newline e)))

pub token_in_line : (b : ℕ) → IsTrue (is_token_byte b) → InLine b
token_in_line b t = (token_starts b t).0

uri_in_line : (b : ℕ) → IsTrue (is_uri_byte b) → InLine b
uri_in_line b t e = let f : is_uri_byte 10 ≡ true = subst (λ (v : ℕ). is_uri_byte v ≡ true) e t in absurd (false≢true f)

value_in_line : (b : ℕ) → IsTrue (is_value_byte b) → InLine b
value_in_line b t e = let f : is_value_byte 10 ≡ true = subst (λ (v : ℕ). is_value_byte v ≡ true) e t in absurd (false≢true f)

-- bytes of one line
lines_to_end-run : (xs ys : List ℕ) → All InLine xs → lines_to_end (xs ++ ys) ≡ lines_to_end ys
lines_to_end-run [] ys h = refl
lines_to_end-run (x ∷ xs) ys h = rw (ne_eqb x 10 (All-head InLine x xs h)) (lines_to_end-run xs ys (All-tail InLine x xs h))

-- a line end that a line follows
lines_to_end-next : (e : LineEnd) (m : ℕ) (ms : List ℕ) → Starts m → lines_to_end (print_end e ++ (m ∷ ms)) ≡ suc (lines_to_end (m ∷ ms))
lines_to_end-next crlf m ms s = rw (ne_eqb m 10 s.0) (rw (ne_eqb m 13 s.1) refl)
lines_to_end-next lf m ms s = rw (ne_eqb m 10 s.0) (rw (ne_eqb m 13 s.1) refl)

-- a line end that the empty line follows
lines_to_end-last : (e last : LineEnd) (rest : List ℕ) → lines_to_end (print_end e ++ (print_end last ++ rest)) ≡ 0
lines_to_end-last crlf crlf rest = refl
lines_to_end-last crlf lf rest = refl
lines_to_end-last lf crlf rest = refl
lines_to_end-last lf lf rest = refl

late : (n : ℕ) → 10 < n → InLine n
late n b e = absurd (omega arith)

-- the bytes of a field line before its end
abbrev pub run_of : Field → List ℕ
run_of f = f.name ++ 58 ∷ f.raw

run_in_line : (f : Field) → IsField f → All InLine (run_of f)
run_in_line f v =
    All-append InLine f.name (58 ∷ f.raw)
    (All-weaker (λ b. IsTrue (is_token_byte b)) InLine token_in_line f.name v.name.1)
    (All-cons InLine 58 f.raw (late 58 (omega arith)) (All-weaker (λ b. IsTrue (is_value_byte b)) InLine value_in_line f.raw v.raw))

-- a run that begins with a token byte, after a line end
lines_to_end-token : (e : LineEnd) (name more ys : List ℕ) → 0 < length name → AllPass is_token_byte name → All InLine (name ++ more)
    → lines_to_end (print_end e ++ ((name ++ more) ++ ys)) ≡ suc (lines_to_end ys)
lines_to_end-token e [] more ys h pass line = absurd (omega arith)
lines_to_end-token e (m ∷ ms) more ys h pass line =
    lines_to_end-next e m ((ms ++ more) ++ ys) (token_starts m (All-head (λ b. IsTrue (is_token_byte b)) m ms pass))
    ∙ ap suc (lines_to_end-run (m ∷ (ms ++ more)) ys line)

section_assoc : (a b c d e : List ℕ) → (((a ++ b) ++ c) ++ d) ++ e ≡ a ++ (b ++ ((c ++ d) ++ e))
section_assoc a b c d e = simp append_assoc

pub section_split : (f : Field) (fs : List Field) (last : LineEnd) (rest : List ℕ)
    → print_section (f ∷ fs) last ++ rest ≡ run_of f ++ (print_end f.end ++ (print_section fs last ++ rest))
section_split f fs last rest = section_assoc (run_of f) (print_end f.end) (flat_map print_field fs) (print_end last) rest

lines_to_end-section : (e : LineEnd) (fields : List Field) (last : LineEnd) (rest : List ℕ) → All IsField fields
    → lines_to_end (print_end e ++ (print_section fields last ++ rest)) ≡ length fields
lines_to_end-section e [] last rest valid = lines_to_end-last e last rest
lines_to_end-section e (f ∷ fs) last rest valid =
    let v = All-head IsField f fs valid in
    ap (λ t. lines_to_end (print_end e ++ t)) (section_split f fs last rest)
    ∙ lines_to_end-token e f.name (58 ∷ f.raw) (print_end f.end ++ (print_section fs last ++ rest)) v.name.0 v.name.1 (run_in_line f v)
    ∙ ap suc (lines_to_end-section f.end fs last rest (All-tail IsField f fs valid))

-- the empty lines at the front
after_blank-lf : (xs : List ℕ) → after_blank (10 ∷ xs) ≡ after_blank xs
after_blank-lf [] = refl
after_blank-lf (x ∷ xs) = refl

after_blank-here : (m : ℕ) (ms : List ℕ) → Starts m → after_blank (m ∷ ms) ≡ m ∷ ms
after_blank-here m [] s = rw (ne_eqb m 10 s.0) refl
after_blank-here m (x ∷ ms) s = rw (ne_eqb m 10 s.0) (rw (ne_eqb m 13 s.1) refl)

after_blank-blank : (ends : List LineEnd) (m : ℕ) (ms : List ℕ) → Starts m → after_blank (print_blank ends ++ (m ∷ ms)) ≡ m ∷ ms
after_blank-blank [] m ms s = after_blank-here m ms s
after_blank-blank (crlf ∷ ends) m ms s = after_blank-blank ends m ms s
after_blank-blank (lf ∷ ends) m ms s = after_blank-lf (print_blank ends ++ (m ∷ ms)) ∙ after_blank-blank ends m ms s

pub after_blank-token : (ends : List LineEnd) (name more : List ℕ) → 0 < length name → AllPass is_token_byte name → after_blank (print_blank ends ++ (name ++ more)) ≡ name ++ more
after_blank-token ends [] more h pass = absurd (omega arith)
after_blank-token ends (m ∷ ms) more h pass = after_blank-blank ends m (ms ++ more) (token_starts m (All-head (λ b. IsTrue (is_token_byte b)) m ms pass))

-- the start line without its end
abbrev pub rest_of_line : RequestHead → List ℕ
rest_of_line h = 32 ∷ (h.target ++ 32 ∷ print_version h.minor)

version_in_line : (n : ℕ) → All InLine (32 ∷ print_version n)
version_in_line n =
    All-from_recursion InLine (32 ∷ print_version n)
    (late 32 (omega arith), (late 72 (omega arith), (late 84 (omega arith), (late 84 (omega arith), (late 80 (omega arith), (late 47 (omega arith), (late 49 (omega arith), (late 46 (omega arith), (late (48 + n) (omega arith), tt)))))))))

pub rest_in_line : (h : RequestHead) → IsRequestHead h → All InLine (rest_of_line h)
rest_in_line h v =
    All-cons InLine 32 (h.target ++ 32 ∷ print_version h.minor) (late 32 (omega arith))
    (All-append InLine h.target (32 ∷ print_version h.minor)
    (All-weaker (λ b. IsTrue (is_uri_byte b)) InLine uri_in_line h.target v.target.1)
    (version_in_line h.minor))

head_assoc : (b m t v e s r : List ℕ) → (((((b ++ m) ++ t) ++ v) ++ e) ++ s) ++ r ≡ b ++ (m ++ ((t ++ v) ++ (e ++ (s ++ r))))
head_assoc b m t v e s r = simp append_assoc

pub head_split : (h : RequestHead) (rest : List ℕ)
    → print_request h ++ rest ≡ print_blank h.blank ++ (h.method ++ (rest_of_line h ++ (print_end h.line_end ++ (print_section h.fields h.last ++ rest))))
unfolding print_request
head_split h rest = head_assoc (print_blank h.blank) h.method (32 ∷ h.target) (32 ∷ print_version h.minor) (print_end h.line_end) (print_section h.fields h.last) rest

-- what a head that is read has
pub lines_of_head : (bytes : List ℕ) (h : RequestHead) (rest : List ℕ) → ReadsRequest bytes h rest → field_lines bytes ≡ length h.fields
lines_of_head bytes h rest r =
    let v = r.0 in
    let tail : List ℕ = print_end h.line_end ++ (print_section h.fields h.last ++ rest) in
    let line : All InLine h.method = All-weaker (λ b. IsTrue (is_token_byte b)) InLine token_in_line h.method v.method.1 in
    ap field_lines (r.1 ∙ head_split h rest)
    ∙ ap lines_to_end (after_blank-token h.blank h.method (rest_of_line h ++ tail) v.method.0 v.method.1)
    ∙ lines_to_end-run h.method (rest_of_line h ++ tail) line
    ∙ lines_to_end-run (rest_of_line h) tail (rest_in_line h v)
    ∙ lines_to_end-section h.line_end h.fields h.last rest v.fields

-- ---- where such a head ends

length_to_end-run : (xs ys : List ℕ) (n : ℕ) → All InLine xs → length_to_end ys ≡ Some n → length_to_end (xs ++ ys) ≡ Some (length xs + n)
length_to_end-run [] ys n h e = e ∙ ap Some (let z : n ≡ zero + n = omega arith in z)
length_to_end-run (x ∷ xs) ys n h e =
    let r : length_to_end (xs ++ ys) ≡ Some (length xs + n) = length_to_end-run xs ys n (All-tail InLine x xs h) e in
    rw (ne_eqb x 10 (All-head InLine x xs h)) (rw r (ap Some (let z : suc (length xs + n) ≡ suc (length xs) + n = omega arith in z)))

length_to_end-next : (e : LineEnd) (m : ℕ) (ms : List ℕ) (n : ℕ) → Starts m → length_to_end (m ∷ ms) ≡ Some n → length_to_end (print_end e ++ (m ∷ ms)) ≡ Some (length (print_end e) + n)
length_to_end-next crlf m ms n s r = line (10 ∷ (m ∷ ms)) (ap (option_map suc) (length_to_end_line 10 (m ∷ ms) (rw (ne_eqb m 10 s.0) (rw (ne_eqb m 13 s.1) refl)) ∙ ap (option_map suc) r))
  where
    line : (xs : List ℕ) → option_map suc (length_to_end xs) ≡ Some (suc (suc n)) → length_to_end (13 ∷ xs) ≡ Some (2 + n)
    line xs e = e ∙ ap Some (let z : suc (suc n) ≡ 2 + n = omega arith in z)
length_to_end-next lf m ms n s r =
    length_to_end_line 10 (m ∷ ms) (rw (ne_eqb m 10 s.0) (rw (ne_eqb m 13 s.1) refl)) ∙ ap (option_map suc) r ∙ ap Some (let z : suc n ≡ 1 + n = omega arith in z)

length_to_end-last : (e last : LineEnd) (rest : List ℕ) → length_to_end (print_end e ++ (print_end last ++ rest)) ≡ Some (length (print_end e) + length (print_end last))
length_to_end-last crlf crlf rest = refl
length_to_end-last crlf lf rest = refl
length_to_end-last lf crlf rest = refl
length_to_end-last lf lf rest = refl

length_to_end-token : (e : LineEnd) (name more ys : List ℕ) (n : ℕ) → 0 < length name → AllPass is_token_byte name → All InLine (name ++ more) → length_to_end ys ≡ Some n
    → length_to_end (print_end e ++ ((name ++ more) ++ ys)) ≡ Some (length (print_end e) + (length (name ++ more) + n))
length_to_end-token e [] more ys n h pass line r = absurd (omega arith)
length_to_end-token e (m ∷ ms) more ys n h pass line r =
    length_to_end-next e m ((ms ++ more) ++ ys) (length (m ∷ (ms ++ more)) + n) (token_starts m (All-head (λ b. IsTrue (is_token_byte b)) m ms pass)) (length_to_end-run (m ∷ (ms ++ more)) ys n line r)

pub length_to_end-section : (e : LineEnd) (fields : List Field) (last : LineEnd) (rest : List ℕ) → All IsField fields
    → length_to_end (print_end e ++ (print_section fields last ++ rest)) ≡ Some (length (print_end e) + length (print_section fields last))
length_to_end-section e [] last rest valid = length_to_end-last e last rest
length_to_end-section e (f ∷ fs) last rest valid =
    let v = All-head IsField f fs valid in
    let size : length (run_of f) + (length (print_end f.end) + length (print_section fs last)) ≡ length (print_section (f ∷ fs) last) =
    section_size (run_of f) (print_end f.end) (flat_map print_field fs) (print_end last) in
    ap (λ t. length_to_end (print_end e ++ t)) (section_split f fs last rest)
    ∙ length_to_end-token e f.name (58 ∷ f.raw) (print_end f.end ++ (print_section fs last ++ rest)) _ v.name.0 v.name.1 (run_in_line f v)
    (length_to_end-section f.end fs last rest (All-tail IsField f fs valid))
    ∙ ap (λ k. Some (length (print_end e) + k)) size
  where
    section_size : (a b c d : List ℕ) → length a + (length b + length (c ++ d)) ≡ length (((a ++ b) ++ c) ++ d)
    section_size a b c d = omega (arith, length-append (a ++ b ++ c) d, length-append (a ++ b) c, length-append a b, length-append c d)

head_size : (b m t v e s : List ℕ) → length m + (length (t ++ v) + (length e + length s)) + length b ≡ length (((((b ++ m) ++ t) ++ v) ++ e) ++ s)
head_size b m t v e s = omega (arith, length-append (b ++ m ++ t ++ v ++ e) s, length-append (b ++ m ++ t ++ v) e, length-append (b ++ m ++ t) v, length-append (b ++ m) t, length-append b m, length-append t v)

request_size : (h : RequestHead) → length h.method + (length (rest_of_line h) + (length (print_end h.line_end) + length (print_section h.fields h.last))) + length (print_blank h.blank) ≡ length (print_request h)
unfolding print_request
request_size h = head_size (print_blank h.blank) h.method (32 ∷ h.target) (32 ∷ print_version h.minor) (print_end h.line_end) (print_section h.fields h.last)

end_after : (blank body : List ℕ) (n : ℕ) → after_blank (blank ++ body) ≡ body → length_to_end body ≡ Some n → end_of (blank ++ body) ≡ Some (n + length blank)
end_after blank body n e r =
    rw e (rw r (ap Some (let z : n + (length (blank ++ body) - length body) ≡ n + length blank = omega (arith, length-append blank body) in z)))

-- a head of the grammar ends where the bytes say
pub end_of_head : (bytes : List ℕ) (h : RequestHead) (rest : List ℕ) → ReadsRequest bytes h rest → end_of bytes ≡ Some (length (print_request h))
end_of_head bytes h rest r =
    let v = r.0 in
    let line : All InLine h.method = All-weaker (λ b. IsTrue (is_token_byte b)) InLine token_in_line h.method v.method.1 in
    let tail : List ℕ = print_end h.line_end ++ (print_section h.fields h.last ++ rest) in
    let section = length_to_end-section h.line_end h.fields h.last rest v.fields in
    ap end_of (r.1 ∙ head_split h rest)
    ∙ end_after (print_blank h.blank) (h.method ++ (rest_of_line h ++ tail)) _ (after_blank-token h.blank h.method (rest_of_line h ++ tail) v.method.0 v.method.1)
    (length_to_end-run h.method (rest_of_line h ++ tail) _ line (length_to_end-run (rest_of_line h) tail _ (rest_in_line h v) section))
    ∙ ap Some (request_size h)
