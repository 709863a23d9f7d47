-- The fields of a head as parts of its bytes and of the same in lower case.
use Rattle.std.proofs.Common.{◌≡◌, ℕ, ◌-◌, List, take, drop, sym, ap, ◌∙◌, subst}
use Rattle.std.proofs.lemmas.List.{take-map, drop-map}
use Rattle.std.specs.Char.{to_ascii_lowercase}
use Rattle.httparse.specs.declared.spans.Span.{Span}
use Rattle.httparse.specs.declared.spans.HeaderSpan.{HeaderSpan}
use Rattle.httparse.specs.Spans.{span_bytes, header_bytes}
use Rattle.http_header.specs.Token.{lowercase}
use Rattle.http_header.specs.FieldName.{IsFieldName}
use Rattle.http_header.specs.FieldValue.{FieldValue, plain_value, IsFieldValue}
use Rattle.http_header.proofs.TokenLemmas.{lowercase-lowercase_lem, IsHeaderName-lowercase, IsFieldName-from_lowercase}
use Rattle.http_head.specs.Fields.{IsTaken, kept}

-- a part in lower case
lower_part : (names buf : List ℕ) (s : Span) → names ≡ lowercase buf → span_bytes names s ≡ lowercase (span_bytes buf s)
lower_part names buf s e =
    ap (λ xs. span_bytes xs s) e
    ∙ ap (take (s.end - s.start)) (drop-map to_ascii_lowercase s.start buf)
    ∙ take-map to_ascii_lowercase (s.end - s.start) (drop s.start buf)

-- a name that is read in lower case, and a value, are those of the field
pub shared_field : (names buf : List ℕ) (h : HeaderSpan) (name : List ℕ) (value : FieldValue) → names ≡ lowercase buf
    → IsFieldName (span_bytes names h.name) → name ≡ lowercase (span_bytes names h.name)
    → IsFieldValue (span_bytes buf h.value) → value ≡ plain_value (span_bytes buf h.value)
    → IsTaken (header_bytes buf h) × ((name, value) ≡ kept (header_bytes buf h))
shared_field names buf h name value lower valid en good ev =
    let e = lower_part names buf h.name lower in
    let same : name ≡ lowercase (span_bytes buf h.name) = en ∙ ap lowercase e ∙ lowercase-lowercase_lem (span_bytes buf h.name) in (
      record { name = IsFieldName-from_lowercase (span_bytes buf h.name) (subst IsFieldName e valid); value = good },
      ap (λ n. (n, value)) same ∙ ap (λ v. (lowercase (span_bytes buf h.name), v)) ev,
    )

-- a name that is refused in lower case refuses the field
pub shared_refused : (names buf : List ℕ) (h : HeaderSpan) → names ≡ lowercase buf → ¬ (IsFieldName (span_bytes names h.name)) → ¬ (IsTaken (header_bytes buf h))
shared_refused names buf h lower never taken =
    never (subst IsFieldName (sym (lower_part names buf h.name lower)) (IsHeaderName-lowercase (span_bytes buf h.name) taken.name).0)
