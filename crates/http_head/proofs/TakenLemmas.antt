-- The map takes what the grammar reads.
use Rattle.std.proofs.Common.{◌≡◌, ℕ, ◌≤◌, List, [], ◌∷◌, map, length, All, take, refl, sym, subst, ◌∙◌}
use Rattle.std.specs.Prelude.{IsTrue}
use Rattle.std.proofs.lemmas.List.Elements.{All-weaker, All-head, All-tail, All-nil, All-cons}
use Rattle.httparse.specs.Grammar as read
use Rattle.httparse.specs.Grammar.{Field, IsField, RequestHead, ReadsRequest}
use Rattle.httparse.specs.declared.spans.HeaderSpan.{HeaderSpan}
use Rattle.httparse.specs.declared.spans.RequestSpans.{RequestSpans}
use Rattle.httparse.specs.Spans.{name_and_value, header_bytes, span_bytes, IsRequestOf}
use Rattle.httparse.proofs.TrimLemmas.{AllPass-trim_ows}
use Rattle.http_header.specs.Token as kept
use Rattle.http_header.specs.FieldValue.{IsFieldValue}
use Rattle.http_head.specs.Fields.{Pair, IsTaken, pairs_of}

same_token : (b : ℕ) → read.is_token_byte b ≡ kept.is_token_byte b
unfolding read.is_token_byte kept.is_token_byte
same_token b = refl

taken_one : (f : Field) → IsField f → length f.name ≤ 65535 → IsTaken (name_and_value f)
taken_one f v short = record {
  name = ((v.name.0, All-weaker (λ b. IsTrue (read.is_token_byte b)) (λ b. IsTrue (kept.is_token_byte b)) (λ b t. sym (same_token b) ∙ t) f.name v.name.1), short);
  value = AllPass-trim_ows read.is_value_byte f.raw v.raw;
}

pub taken_all : (fs : List Field) → All IsField fs → All (λ f. length f.name ≤ 65535) fs → All IsTaken (map name_and_value fs)
taken_all [] v short = All-nil IsTaken
taken_all (f ∷ fs) v short =
    All-cons IsTaken (name_and_value f) (map name_and_value fs) (taken_one f (All-head IsField f fs v) (All-head (λ f. length f.name ≤ 65535) f fs short))
    (taken_all fs (All-tail IsField f fs v) (All-tail (λ f. length f.name ≤ 65535) f fs short))

pub map_takes : (bytes : List ℕ) (h : RequestHead) (rest : List ℕ) → ReadsRequest bytes h rest → All (λ f. length f.name ≤ 65535) h.fields → All IsTaken (pairs_of h)
map_takes bytes h rest r short = taken_all h.fields r.0.fields short

pub values_pass : (fs : List Field) → All IsField fs → All (λ (p : Pair). IsFieldValue p.1) (map name_and_value fs)
values_pass [] v = All-nil (λ (p : Pair). IsFieldValue p.1)
values_pass (f ∷ fs) v =
    All-cons (λ (p : Pair). IsFieldValue p.1) (name_and_value f) (map name_and_value fs) (AllPass-trim_ows read.is_value_byte f.raw (All-head IsField f fs v).raw)
    (values_pass fs (All-tail IsField f fs v))

pub parts_pass : (buf : List ℕ) (hs : List HeaderSpan) → All (λ (p : Pair). IsFieldValue p.1) (map (header_bytes buf) hs) → All (λ (h : HeaderSpan). IsFieldValue (span_bytes buf h.value)) hs
parts_pass buf [] v = All-nil (λ (h : HeaderSpan). IsFieldValue (span_bytes buf h.value))
parts_pass buf (h ∷ hs) v =
    All-cons (λ (h : HeaderSpan). IsFieldValue (span_bytes buf h.value)) h hs (All-head (λ (p : Pair). IsFieldValue p.1) (header_bytes buf h) (map (header_bytes buf) hs) v)
    (parts_pass buf hs (All-tail (λ (p : Pair). IsFieldValue p.1) (header_bytes buf h) (map (header_bytes buf) hs) v))

-- the map takes each value of a head that was read
pub values_valid : (bytes : List ℕ) (spans : List HeaderSpan) (found : RequestSpans) → IsRequestOf bytes spans found
    → All (λ (h : HeaderSpan). IsFieldValue (span_bytes bytes h.value)) (take found.headers spans)
values_valid bytes spans found o =
    parts_pass bytes (take found.headers spans) (subst (All (λ (p : Pair). IsFieldValue p.1)) (sym o.1.fields) (values_pass o.0.fields o.1.reads.0.fields))
