-- A head that is read, and the sections of the grammar.
use Rattle.std.proofs.Common.{◌≡◌, ℕ, suc, ◌+◌, ◌-◌, ◌<◌, ◌≤◌, List, [], ◌∷◌, ◌++◌, length, take, drop, All, Option, Some, None, Result, Ok, Err, sym, refl, ap, ◌∙◌, arith}
use Rattle.std.specs.Prelude.{option_map, IsTrue}
use Rattle.std.proofs.lemmas.Option.{same_Some}
use Rattle.std.proofs.lemmas.Bool.{ne_eqb}
use Rattle.std.proofs.lemmas.List.{append_assoc, append-nil, take-append-drop}
use Rattle.std.proofs.lemmas.List.Elements.{All-head}
use Rattle.std.proofs.Math.Seq.{take-append_seam, take-append-add}
use Rattle.httparse.specs.Grammar.{is_token_byte, AllPass, LineEnd, crlf, lf, print_end, Field, IsField, print_section, ReadsSection}
use Rattle.http_header.specs.FieldValue.{FieldValue}
use Rattle.http_header.specs.HeaderMap.{Entries}
use Rattle.http_head.specs.Lines.{empty_line, after_blank, length_to_end, end_of}
use Rattle.http_head.specs.Ends.{head_end_at, head_end_in, head_end}
use Rattle.http_head.specs.Read.{Section, read_section}
use Rattle.http_head.specs.declared.limits.TheConstants.{HEAD_LIMIT}
use Rattle.http_head.specs.declared.ends.HeadEnd.{HeadEnd}
use Rattle.http_head.specs.declared.ends.HeadEnd.TheVariants.{At, NotYet, TooLarge}
use Rattle.http_head.proofs.ReadLemmas.{section_at, section_sound}
use Rattle.http_head.proofs.GrammarLemmas.{Starts, token_starts, section_split, after_blank-token, length_to_end-section}
use Rattle.cgi_text.specs.Head.{section_end, head_with, head_by, head_read, head_at, fields_of, cgi_head, status_of, IsHeadOf}
use Rattle.cgi_text.specs.declared.head.CgiHead.{CgiHead}
use Rattle.cgi_text.specs.declared.head.CgiRefusal.{CgiRefusal}
use Rattle.cgi_text.proofs.HeadLemmas.{few_lines}

-- a head has the size that it is read with
with_size : (size : ℕ) (fields : Entries FieldValue) (o : Option ℕ) (head : CgiHead) → head_with size fields o ≡ Ok head → head.length ≡ size
with_size size fields None head e = cc
with_size size fields (Some status) head e = sym (ap (λ (r : Result CgiHead CgiRefusal). size_of r) e)
  where
    size_of : Result CgiHead CgiRefusal → ℕ
    size_of (Ok h) = h.length
    size_of (Err r) = 0

-- what is read within the end
read_in : (bytes : List ℕ) (k : ℕ) (head : CgiHead) (o : Option Section) → read_section 65 (take k bytes) ≡ o → head_read k o ≡ Ok head → IsHeadOf bytes head
read_in bytes k head None r e = cc
read_in bytes k head (Some s) r e =
    let is = section_sound 65 (take k bytes) s r in
    let size : head.length ≡ k = with_size k (fields_of s.0.0) (status_of (fields_of s.0.0)) head e in
    let few : length s.0.0 < 65 = few_lines 65 (take k bytes) s r in
    record {
      fields = s.0.0;
      last = s.0.1;
      rest = s.1 ++ drop k bytes;
      reads = (is.valid, sym (take-append-drop k bytes) ∙ ap (λ t. t ++ drop k bytes) is.split ∙ append_assoc (print_section s.0.0 s.0.1) s.1 (drop k bytes));
      few = omega (arith, few);
      says = ap (λ n. head_by n (fields_of s.0.0)) size ∙ e;
    }

pub head_is_section : (bytes : List ℕ) (head : CgiHead) → cgi_head bytes ≡ Ok head → IsHeadOf bytes head
head_is_section bytes head e = by (section_end bytes) e
  where
    by : (o : HeadEnd) → head_at bytes o ≡ Ok head → IsHeadOf bytes head
    by NotYet e = cc
    by TooLarge e = cc
    by (At k) e = read_in bytes k head (read_section 65 (take k bytes)) refl e

-- ---- where a section of the grammar ends

no_empty : (name more : List ℕ) → 0 < length name → AllPass is_token_byte name → empty_line (name ++ more) ≡ 0
no_empty [] more h pass = absurd (omega arith)
no_empty (m ∷ ms) more h pass =
    let s : Starts m = token_starts m (All-head (λ b. IsTrue (is_token_byte b)) m ms pass) in
    rw (ne_eqb m 10 s.0, ne_eqb m 13 s.1) refl

-- what follows the name of the first field
abbrev after_name : Field → List Field → LineEnd → List ℕ → List ℕ
after_name f fs last rest = (58 ∷ f.raw) ++ (print_end f.end ++ (print_section fs last ++ rest))

text_is : (f : Field) (fs : List Field) (last : LineEnd) (rest : List ℕ) → print_section (f ∷ fs) last ++ rest ≡ f.name ++ after_name f fs last rest
text_is f fs last rest = section_split f fs last rest ∙ append_assoc f.name (58 ∷ f.raw) (print_end f.end ++ (print_section fs last ++ rest))

no_empty_line : (f : Field) (fs : List Field) (last : LineEnd) (rest : List ℕ) → IsField f → empty_line (print_section (f ∷ fs) last ++ rest) ≡ 0
no_empty_line f fs last rest v = ap empty_line (text_is f fs last rest) ∙ no_empty f.name (after_name f fs last rest) v.name.0 v.name.1

no_blank : (f : Field) (fs : List Field) (last : LineEnd) (rest : List ℕ) → IsField f
    → after_blank (print_section (f ∷ fs) last ++ rest) ≡ print_section (f ∷ fs) last ++ rest
no_blank f fs last rest v =
    ap after_blank (text_is f fs last rest) ∙ after_blank-token [] f.name (after_name f fs last rest) v.name.0 v.name.1 ∙ sym (text_is f fs last rest)

without_suc : (o : Option ℕ) (n : ℕ) → option_map suc o ≡ Some (1 + n) → o ≡ Some n
without_suc None n e = cc
without_suc (Some k) n e = let z : k ≡ n = omega (arith, same_Some (suc k) (1 + n) e) in ap Some z

after_feed : (xs : List ℕ) (n : ℕ) → empty_line xs ≡ 0 → length_to_end (10 ∷ xs) ≡ Some (1 + n) → length_to_end xs ≡ Some n
after_feed xs n e l = let z : option_map suc (length_to_end xs) ≡ Some (1 + n) = rw e at l in without_suc (length_to_end xs) n z

ends : (ys : List ℕ) (n : ℕ) → after_blank ys ≡ ys → length_to_end ys ≡ Some n → end_of ys ≡ Some n
ends ys n a l = rw a (rw l (let z : n + (length ys - length ys) ≡ n = omega arith in ap Some z))

section_ends : (f : Field) (fs : List Field) (last : LineEnd) (rest : List ℕ) → All IsField (f ∷ fs)
    → end_of (print_section (f ∷ fs) last ++ rest) ≡ Some (length (print_section (f ∷ fs) last))
section_ends f fs last rest valid =
    let v = All-head IsField f fs valid in
    ends (print_section (f ∷ fs) last ++ rest) (length (print_section (f ∷ fs) last)) (no_blank f fs last rest v)
    (after_feed (print_section (f ∷ fs) last ++ rest) (length (print_section (f ∷ fs) last)) (no_empty_line f fs last rest v) (length_to_end-section lf (f ∷ fs) last rest valid))

ends_in : (most : ℕ) (f : Field) (fs : List Field) (last : LineEnd) (rest : List ℕ) → All IsField (f ∷ fs) → length (print_section (f ∷ fs) last) ≤ most
    → head_end_in most (print_section (f ∷ fs) last ++ rest) ≡ At (length (print_section (f ∷ fs) last))
ends_in most f fs last rest valid small =
    let text : List ℕ = print_section (f ∷ fs) last in
    let room : ℕ = most - length text in
    let size : most ≡ length text + room = omega (arith, small) in
    let front : take most (text ++ rest) ≡ text ++ take room rest = ap (λ n. take n (text ++ rest)) size ∙ take-append-add text rest room in
    ap (head_end_at most (length (text ++ rest))) (ap end_of front ∙ section_ends f fs last (take room rest) valid)

past_empty : (xs : List ℕ) → empty_line xs ≡ 0 → section_end xs ≡ head_end xs
past_empty xs e = rw e refl

section_end_is : (fields : List Field) (last : LineEnd) (rest : List ℕ) → All IsField fields → length (print_section fields last) ≤ HEAD_LIMIT
    → section_end (print_section fields last ++ rest) ≡ At (length (print_section fields last))
section_end_is [] crlf rest valid small = refl
section_end_is [] lf rest valid small = refl
section_end_is (f ∷ fs) last rest valid small =
    past_empty (print_section (f ∷ fs) last ++ rest) (no_empty_line f fs last rest (All-head IsField f fs valid))
    ∙ ends_in HEAD_LIMIT f fs last rest valid small

pub section_is_read : (bytes : List ℕ) (fields : List Field) (last : LineEnd) (rest : List ℕ) → ReadsSection bytes fields last rest
    → length (print_section fields last) ≤ HEAD_LIMIT → length fields ≤ 64
    → cgi_head bytes ≡ head_by (length (print_section fields last)) (fields_of fields)
section_is_read bytes fields last rest r small few =
    let text : List ℕ = print_section fields last in
    ap cgi_head r.1
    ∙ ap (head_at (text ++ rest)) (section_end_is fields last rest r.0 small)
    ∙ ap (λ h. head_read (length text) (read_section 65 h)) (take-append_seam text rest ∙ sym (append-nil text))
    ∙ ap (head_read (length text)) (section_at 65 fields last [] (omega (arith, few)) r.0)
