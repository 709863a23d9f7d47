-- From what the code finds in a head to what the head says.
use Rattle.std.proofs.Common.{◌≡◌, ℕ, ◌≤◌, ◌<◌, Bool, true, false, cond, ◌&&◌, leb, List, [], ◌∷◌, map, length, take, drop, All, Option, Some, None, Result, Err, sym, refl, ap, ◌∙◌, subst, inl, inr, ◌⊎◌}
use Rattle.std.specs.List.{list_all}
use Rattle.std.proofs.lemmas.Bool.{lt-ltb, le-ltb, le-leb, leb-true, and_from, cases_Bool}
use Rattle.std.proofs.lemmas.List.Elements.{All-head, All-tail, All-nil, All-cons}
use Rattle.httparse.specs.declared.spans.HeaderSpan.{HeaderSpan}
use Rattle.httparse.specs.declared.spans.RequestSpans.{RequestSpans}
use Rattle.httparse.specs.Grammar.{Field, RequestHead, HasNoRequest}
use Rattle.httparse.specs.Spans.{name_and_value, header_bytes, span_bytes, IsRequestOf}
use Rattle.http_header.specs.FieldValue.{FieldValue}
use Rattle.http_header.specs.HeaderMap.{Entries}
use Rattle.http_head.specs.Lines.{field_lines, start_line, ends_in_other_version}
use Rattle.http_head.specs.Fields.{IsTaken, map_of, pairs_of}
use Rattle.http_head.specs.Read.{read_request}
use Rattle.http_head.specs.Head.{request_of, has_short_names, request_read, head_of, Says}
use Rattle.http_head.specs.declared.head.Request.{Request}
use Rattle.http_head.specs.declared.refusal.HeadRefusal.{HeadRefusal}
use Rattle.http_head.specs.declared.refusal.HeadRefusal.TheVariants.{BadHead, TooLarge, BadVersion}
use Rattle.http_head.proofs.ReadLemmas.{read_complete, read_sound}
use Rattle.http_head.proofs.TakenLemmas.{map_takes}

-- the head passes the tests on its lines
pub record PassesLines (bytes : List ℕ) : Type 0 where
  pub few : field_lines bytes ≤ 64
  pub version : ends_in_other_version (start_line bytes) ≡ false

pub too_many_lines : (bytes : List ℕ) → 64 < field_lines bytes → head_of bytes ≡ Err TooLarge
unfolding head_of
too_many_lines bytes h = rw (lt-ltb 64 (field_lines bytes) h) refl

pub other_version : (bytes : List ℕ) → field_lines bytes ≤ 64 → ends_in_other_version (start_line bytes) ≡ true → head_of bytes ≡ Err BadVersion
unfolding head_of
other_version bytes few e = rw (le-ltb 64 (field_lines bytes) few, e) refl

past_lines : (bytes : List ℕ) → PassesLines bytes → head_of bytes ≡ request_read (read_request bytes)
unfolding head_of
past_lines bytes p = rw (le-ltb 64 (field_lines bytes) p.few, p.version) refl

pub nothing_read : (bytes : List ℕ) → PassesLines bytes → HasNoRequest bytes → head_of bytes ≡ Err BadHead
nothing_read bytes p none = past_lines bytes p ∙ by (read_request bytes) refl
  where
    by : (o : Option (RequestHead × List ℕ)) → read_request bytes ≡ o → request_read o ≡ Err BadHead
    by None e = refl
    by (Some q) e = absurd (none q.0 q.1 (read_sound bytes q.0 q.1 e))

-- ---- the map takes the fields exactly where their names are short

short_names : (fs : List Field) → All IsTaken (map name_and_value fs) → list_all (λ f. leb (length f.name) 65535) fs ≡ true
short_names [] h = refl
short_names (f ∷ fs) h =
    let t = All-head IsTaken (name_and_value f) (map name_and_value fs) h in
    and_from _ _ (le-leb (length f.name) 65535 t.name.1) (short_names fs (All-tail IsTaken (name_and_value f) (map name_and_value fs) h))

all_short : (fs : List Field) → list_all (λ f. leb (length f.name) 65535) fs ≡ true → All (λ f. length f.name ≤ 65535) fs
all_short [] e = All-nil (λ (f : Field). length f.name ≤ 65535)
all_short (f ∷ fs) e = by (cases_Bool (leb (length f.name) 65535)) e (all_short fs)
  where
    by : (leb (length f.name) 65535 ≡ true) ⊎ (leb (length f.name) 65535 ≡ false) → (leb (length f.name) 65535 && list_all (λ f. leb (length f.name) 65535) fs) ≡ true
        → (list_all (λ f. leb (length f.name) 65535) fs ≡ true → All (λ f. length f.name ≤ 65535) fs) → All (λ f. length f.name ≤ 65535) (f ∷ fs)
    by (inl t) e next =
        let rest : list_all (λ f. leb (length f.name) 65535) fs ≡ true = rw t at e in
        All-cons (λ f. length f.name ≤ 65535) f fs (leb-true (length f.name) 65535 t) (next rest)
    by (inr n) e next = let bad : false ≡ true = rw n at e in cc

-- ---- a head that the grammar reads

at_read : (bytes : List ℕ) (spans : List HeaderSpan) (found : RequestSpans) → PassesLines bytes → (o : IsRequestOf bytes spans found)
    → head_of bytes ≡ request_read (Some (o.0, drop found.len bytes))
at_read bytes spans found p o = past_lines bytes p ∙ ap request_read (read_complete bytes o.0 (drop found.len bytes) o.1.reads)

-- the map does not take one of its fields
pub not_taken : (bytes : List ℕ) (spans : List HeaderSpan) (found : RequestSpans) → PassesLines bytes → IsRequestOf bytes spans found
    → ¬ (All IsTaken (map (header_bytes bytes) (take found.headers spans))) → head_of bytes ≡ Err BadHead
not_taken bytes spans found p o never = at_read bytes spans found p o ∙ by (has_short_names h) refl
  where
    h : RequestHead
    h = o.0

    by : (t : Bool) → has_short_names h ≡ t → cond t (request_of h.minor h.method h.target (map_of (pairs_of h))) (Err BadHead) ≡ Err BadHead
    by true e =
        absurd (never (subst (All IsTaken) (sym o.1.fields) (map_takes bytes h (drop found.len bytes) o.1.reads (all_short h.fields e))))
    by false e = refl

-- the map takes them all
head_taken : (bytes : List ℕ) (spans : List HeaderSpan) (found : RequestSpans) → PassesLines bytes → (o : IsRequestOf bytes spans found)
    → All IsTaken (map (header_bytes bytes) (take found.headers spans)) → head_of bytes ≡ request_of o.0.minor o.0.method o.0.target (map_of (pairs_of o.0))
head_taken bytes spans found p o taken =
    let h = o.0 in
    at_read bytes spans found p o
    ∙ ap (λ t. cond t (request_of h.minor h.method h.target (map_of (pairs_of h))) (Err BadHead)) (short_names h.fields (subst (All IsTaken) o.1.fields taken))

-- what is said of the parts is said of the head
pub parts_say : (bytes : List ℕ) (spans : List HeaderSpan) (found : RequestSpans) → PassesLines bytes → IsRequestOf bytes spans found
    → (method sent : List ℕ) (fields : Entries FieldValue) (result : Result Request HeadRefusal)
    → All IsTaken (map (header_bytes bytes) (take found.headers spans)) → fields ≡ map_of (map (header_bytes bytes) (take found.headers spans))
    → method ≡ span_bytes bytes found.method → sent ≡ span_bytes bytes found.path
    → Says (request_of found.version method sent fields) result → Says (head_of bytes) result
parts_say bytes spans found p o method sent fields result taken is m t says =
    let h = o.0 in
    let e : request_of found.version method sent fields ≡ head_of bytes =
    ap (λ v. request_of v method sent fields) o.1.version
    ∙ ap (λ v. request_of h.minor v sent fields) (m ∙ o.1.method)
    ∙ ap (λ v. request_of h.minor h.method v fields) (t ∙ o.1.path)
    ∙ ap (request_of h.minor h.method h.target) (is ∙ ap map_of o.1.fields)
    ∙ sym (head_taken bytes spans found p o taken) in
    subst (λ due. Says due result) e says
