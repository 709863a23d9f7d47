-- What is passed on of a head that was read.
use Rattle.std.proofs.Common.{◌≡◌, ℕ, Bool, true, false, cond, List, [], ◌∷◌, ◌++◌, map, flat_map, All, Option, Some, None, Result, Ok, Err, refl, sym, subst, ap, ◌∙◌, arith}
use Rattle.std.specs.Prelude.{IsTrue, bytes_eq}
use Rattle.std.specs.Char.{to_ascii_lowercase}
use Rattle.std.proofs.lemmas.List.{length-map}
use Rattle.std.proofs.lemmas.List.Elements.{All-weaker, All-map, All-append, All-head, All-tail, All-nil, All-cons}
use Rattle.httparse.specs.Grammar as read
use Rattle.httparse.specs.Grammar.{AllPass, IsToken, Field, IsField}
use Rattle.httparse.specs.Spans.{name_and_value}
use Rattle.httparse.proofs.TrimLemmas.{AllPass-trim_ows}
use Rattle.http_header.specs.Token as kept
use Rattle.http_header.specs.FieldValue.{FieldValue}
use Rattle.http_header.specs.HeaderMap.{Entry, Entries, append, append_all, entry_pairs, pairs}
use Rattle.http_header.proofs.TokenLemmas.{is_token_byte-to_ascii_lowercase}
use Rattle.http_reply.specs.FieldLines.{FieldLines}
use Rattle.http_reply.specs.Reading.{IsFieldLine}
use Rattle.http_head.specs.Fields as fields
use Rattle.http_head.specs.Fields.{Pair}
use Rattle.cgi_text.specs.Passed.{is_withheld, passed_line, passed_on}
use Rattle.cgi_text.specs.Head.{head_with, status_of, fields_of, cgi_head}
use Rattle.cgi_text.specs.declared.head.CgiHead.{CgiHead}
use Rattle.cgi_text.specs.declared.head.CgiRefusal.{CgiRefusal}
use Rattle.cgi_text.proofs.SectionLemmas.{head_is_section}

-- a name, and a value as the map keeps it
abbrev Kept : Type 0
Kept = List ℕ × FieldValue

abbrev IsLine : Kept → Type 0
IsLine p = IsFieldLine (p.0, p.1.bytes)

-- the values of an entry make field lines under its name
record IsEntry (e : Entry FieldValue) : Type 0 where
  name : IsToken e.0
  values : All (λ (v : FieldValue). AllPass read.is_value_byte v.bytes) e.1

same_token : (b : ℕ) → read.is_token_byte b ≡ kept.is_token_byte b
unfolding read.is_token_byte kept.is_token_byte
same_token b = refl

lowered : (b : ℕ) → IsTrue (read.is_token_byte b) → IsTrue (read.is_token_byte (to_ascii_lowercase b))
lowered b t = same_token (to_ascii_lowercase b) ∙ is_token_byte-to_ascii_lowercase b (sym (same_token b) ∙ t)

lower_token : (name : List ℕ) → IsToken name → IsToken (kept.lowercase name)
lower_token name h = (
  omega (arith, h.0, length-map name to_ascii_lowercase),
  All-map (λ b. IsTrue (read.is_token_byte b)) to_ascii_lowercase name
      (All-weaker (λ b. IsTrue (read.is_token_byte b)) (λ b. IsTrue (read.is_token_byte (to_ascii_lowercase b))) lowered name h.1),
)

one_kept : (f : Field) → IsField f → IsLine (fields.kept (name_and_value f))
one_kept f v = record { name = lower_token f.name v.name; value = AllPass-trim_ows read.is_value_byte f.raw v.raw }

-- the lines of a section, as the map keeps them
all_kept : (fs : List Field) → All IsField fs → All IsLine (map fields.kept (map name_and_value fs))
all_kept [] v = All-nil IsLine
all_kept (f ∷ fs) v =
    All-cons IsLine (fields.kept (name_and_value f)) (map fields.kept (map name_and_value fs)) (one_kept f (All-head IsField f fs v))
    (all_kept fs (All-tail IsField f fs v))

one_more : (values : List FieldValue) (v : FieldValue) → All (λ (w : FieldValue). AllPass read.is_value_byte w.bytes) values → AllPass read.is_value_byte v.bytes
    → All (λ (w : FieldValue). AllPass read.is_value_byte w.bytes) (values ++ v ∷ [])
one_more values v all one =
    let P : FieldValue → Type 0 = λ w. AllPass read.is_value_byte w.bytes in All-append P values (v ∷ []) all (All-cons P v [] one (All-nil P))

added : (m : Entries FieldValue) (p : Kept) → IsLine p → All IsEntry m → All IsEntry (append m p.0 p.1)
added [] p line all =
    All-cons IsEntry (p.0, p.1 ∷ []) []
    (record { name = line.name; values = one_more [] p.1 (All-nil (λ (w : FieldValue). AllPass read.is_value_byte w.bytes)) line.value }) (All-nil IsEntry)
added (e ∷ m) p line all = by (bytes_eq e.0 p.0) (added m p line (All-tail IsEntry e m all))
  where
    by : (t : Bool) → All IsEntry (append m p.0 p.1) → All IsEntry (cond t ((e.0, e.1 ++ p.1 ∷ []) ∷ m) (e ∷ append m p.0 p.1))
    by true more =
        let h = All-head IsEntry e m all in
        All-cons IsEntry (e.0, e.1 ++ p.1 ∷ []) m (record { name = h.name; values = one_more e.1 p.1 h.values line.value }) (All-tail IsEntry e m all)
    by false more = All-cons IsEntry e (append m p.0 p.1) (All-head IsEntry e m all) more

all_added : (ps : List Kept) (m : Entries FieldValue) → All IsLine ps → All IsEntry m → All IsEntry (append_all m ps)
all_added [] m lines all = all
all_added (p ∷ ps) m lines all = all_added ps (append m p.0 p.1) (All-tail IsLine p ps lines) (added m p (All-head IsLine p ps lines) all)

entry_lines : (name : List ℕ) (values : List FieldValue) → IsToken name → All (λ (v : FieldValue). AllPass read.is_value_byte v.bytes) values
    → All IsLine (map (λ v. (name, v)) values)
entry_lines name [] token all = All-nil IsLine
entry_lines name (v ∷ values) token all =
    let P : FieldValue → Type 0 = λ w. AllPass read.is_value_byte w.bytes in
    All-cons IsLine (name, v) (map (λ v. (name, v)) values) (record { name = token; value = All-head P v values all })
    (entry_lines name values token (All-tail P v values all))

all_lines : (m : Entries FieldValue) → All IsEntry m → All IsLine (pairs m)
all_lines [] all = All-nil IsLine
all_lines (e ∷ m) all =
    let h = All-head IsEntry e m all in
    All-append IsLine (entry_pairs e) (pairs m) (entry_lines e.0 e.1 h.name h.values) (all_lines m (All-tail IsEntry e m all))

passed : (ps : List Kept) → All IsLine ps → All IsFieldLine (flat_map (λ (p : Kept). passed_line (p.0, p.1.bytes)) ps)
passed [] all = All-nil IsFieldLine
passed (p ∷ ps) all = by (is_withheld p.0) (passed ps (All-tail IsLine p ps all))
  where
    by : (t : Bool) → All IsFieldLine (flat_map (λ (p : Kept). passed_line (p.0, p.1.bytes)) ps)
        → All IsFieldLine (cond t [] ((p.0, p.1.bytes) ∷ []) ++ flat_map (λ (p : Kept). passed_line (p.0, p.1.bytes)) ps)
    by true more = more
    by false more = All-cons IsFieldLine (p.0, p.1.bytes) (flat_map (λ (p : Kept). passed_line (p.0, p.1.bytes)) ps) (All-head IsLine p ps all) more

section_passed : (fs : List Field) → All IsField fs → All IsFieldLine (passed_on (fields_of fs))
section_passed fs v =
    let m : Entries FieldValue = fields_of fs in
    passed (pairs m) (all_lines m (all_added (map fields.kept (map name_and_value fs)) [] (all_kept fs v) (All-nil IsEntry)))

-- a head has the fields that are passed on
with_fields : (size : ℕ) (m : Entries FieldValue) (o : Option ℕ) (head : CgiHead) → head_with size m o ≡ Ok head → head.fields ≡ passed_on m
with_fields size m None head e = cc
with_fields size m (Some status) head e = sym (ap (λ (r : Result CgiHead CgiRefusal). lines_of r) e)
  where
    lines_of : Result CgiHead CgiRefusal → FieldLines
    lines_of (Ok h) = h.fields
    lines_of (Err r) = []

pub head_passes : (bytes : List ℕ) (head : CgiHead) → cgi_head bytes ≡ Ok head → All IsFieldLine head.fields
head_passes bytes head e =
    let is = head_is_section bytes head e in
    subst (All IsFieldLine) (sym (with_fields head.length (fields_of is.fields) (status_of (fields_of is.fields)) head is.says)) (section_passed is.fields is.reads.0)
