-- From what the code finds in a head to what the head makes of an answer.
use Rattle.std.proofs.Common.{◌≡◌, ℕ, ◌≤◌, ◌<◌, Bool, cond, List, map, length, take, drop, All, Option, Some, None, sym, refl, ap, ◌∙◌, subst, arith, length-take}
use Rattle.std.proofs.lemmas.Bool.{lt-ltb, le-ltb}
use Rattle.std.proofs.lemmas.List.{length-map}
use Rattle.httparse.specs.declared.spans.HeaderSpan.{HeaderSpan}
use Rattle.httparse.specs.declared.spans.ResponseSpans.{ResponseSpans}
use Rattle.httparse.specs.Grammar.{ResponseHead, ReadsResponse, status_code}
use Rattle.httparse.specs.Spans.{name_and_value, header_bytes, span_bytes, IsResponseOf}
use Rattle.http_header.specs.FieldValue.{FieldValue, IsFieldValue}
use Rattle.http_header.specs.HeaderMap.{Entries}
use Rattle.http_head.specs.Fields.{map_of}
use Rattle.http_head.proofs.TakenLemmas.{values_pass, parts_pass}
use Rattle.cgi_text.specs.Head.{fields_of}
use Rattle.proxy_message.specs.declared.stage.Stage.TheVariants as stage
use Rattle.proxy_message.specs.Responses.{read_response}
use Rattle.proxy_message.specs.Progress.{before, by_status, by_response, judged}
use Rattle.proxy_message.proofs.ResponseLemmas.{response_found, response_sound}

-- no head within the room for fields
pub nothing_read : (head_only : Bool) (head : List ℕ) → ((h : ResponseHead) (rest : List ℕ) → ReadsResponse head h rest → 64 < length h.fields)
    → judged head_only head ≡ before head_only stage.BadAnswer
nothing_read head_only head none = by (read_response head) refl
  where
    by : (o : Option (ResponseHead × List ℕ)) → read_response head ≡ o → by_response head_only (length head) o ≡ before head_only stage.BadAnswer
    by None e = refl
    by (Some p) e =
        let many : 64 < length p.0.fields = none p.0 p.1 (response_sound head p.0 p.1 e) in
        ap (λ (t : Bool). cond t (before head_only stage.BadAnswer) (by_status head_only (length head) (status_code p.0) (fields_of p.0.fields))) (lt-ltb 64 (length p.0.fields) many)

-- the parts of a head that is read
pub parts_judge : (head_only : Bool) (head : List ℕ) (spans : List HeaderSpan) (found : ResponseSpans) → (o : IsResponseOf head spans found) → found.headers ≤ 64
    → (fields : Entries FieldValue) → fields ≡ map_of (map (header_bytes head) (take found.headers spans))
    → by_status head_only (length head) found.code fields ≡ judged head_only head
parts_judge head_only head spans found o room fields is =
    let h = o.0 in
    let count : length (take found.headers spans) ≡ length h.fields =
    sym (length-map (take found.headers spans) (header_bytes head)) ∙ ap length o.1.fields ∙ length-map h.fields name_and_value in
    let few : length h.fields ≤ 64 = omega (arith, count, length-take found.headers spans, room) in
    ap (λ (n : ℕ). by_status head_only (length head) n fields) o.1.code
    ∙ ap (by_status head_only (length head) (status_code h)) (is ∙ ap map_of o.1.fields)
    ∙ sym (ap (by_response head_only (length head)) (response_found head h (drop found.len head) o.1.reads)
    ∙ ap (λ (t : Bool). cond t (before head_only stage.BadAnswer) (by_status head_only (length head) (status_code h) (fields_of h.fields))) (le-ltb 64 (length h.fields) few))

-- the map takes each value of a head that was read
pub values_valid : (bytes : List ℕ) (spans : List HeaderSpan) (found : ResponseSpans) → IsResponseOf bytes spans found
    → All (λ (h : HeaderSpan). IsFieldValue (span_bytes bytes h.value)) (take found.headers spans)
values_valid bytes spans found o =
    parts_pass bytes (take found.headers spans) (subst (All (λ (p : List ℕ × List ℕ). IsFieldValue p.1)) (sym o.1.fields) (values_pass o.0.fields o.1.reads.0.fields))
