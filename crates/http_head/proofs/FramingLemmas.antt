-- A request that is read is framed in one way.
use Rattle.std.proofs.Common.{◌≡◌, ◌≢◌, ℕ, Bool, true, false, cond, eqb, ltb, ◌^◌, ◌-◌, List, [], ◌∷◌, Option, Some, None, Result, Ok, Err, inl, inr, sym, refl, ap, ◌∙◌, subst}
use Rattle.std.specs.Prelude.{codes, bytes_eq}
use Rattle.std.proofs.lemmas.Bool.{eq-eqb, false≢true}
use Rattle.httparse.specs.Grammar.{RequestHead}
use Rattle.lt_bytes.specs.Numbers.{number_of}
use Rattle.lt_bytes.specs.declared.numbers.Number.{Number}
use Rattle.lt_bytes.specs.declared.numbers.Number.TheVariants as number
use Rattle.http_header.specs.FieldValue.{FieldValue}
use Rattle.http_header.specs.HeaderMap.{Entries, get_all}
use Rattle.http_target.specs.Target.{target_of}
use Rattle.http_target.specs.declared.read.Target.{Target}
use Rattle.http_head.specs.Lines.{field_lines, start_line, ends_in_other_version}
use Rattle.http_head.specs.Fields.{map_of, pairs_of}
use Rattle.http_head.specs.Read.{read_request}
use Rattle.http_head.specs.Framing.{is_chunked, length_of, framing_by, framing_of, IsFramed, IsLengthOf}
use Rattle.http_head.specs.Host.{has_bad_host}
use Rattle.http_head.specs.Head.{request_to, request_by, request_of, has_short_names, request_read, head_of}
use Rattle.http_head.specs.declared.framing.Framing.{Framing}
use Rattle.http_head.specs.declared.framing.Framing.TheVariants as framed
use Rattle.http_head.specs.declared.refusal.HeadRefusal.{HeadRefusal}
use Rattle.http_head.specs.declared.refusal.HeadRefusal.TheVariants.{BadHead, NotImplemented, TooLarge, BadVersion}
use Rattle.http_head.specs.declared.head.Request.{Request}

-- IsFramed of the values under the two names
abbrev IsFramedBy : ℕ → List FieldValue → List FieldValue → Framing → Type 0
IsFramedBy minor codings lengths framed.None = (codings ≡ []) × (lengths ≡ [])
IsFramedBy minor codings lengths (framed.Length n) = (codings ≡ []) × ((v : FieldValue) × (lengths ≡ v ∷ []) × IsLengthOf v.bytes n)
IsFramedBy minor codings lengths framed.Chunked =
    (lengths ≡ []) × (minor ≢ 0) × ((t : FieldValue) × (codings ≡ t ∷ []) × (is_chunked t.bytes ≡ true))

length_by : (minor : ℕ) (v : FieldValue) (n : Number) (framing : Framing) → number_of 10 v.bytes ≡ n → length_of n ≡ Ok framing → IsFramedBy minor [] (v ∷ []) framing
length_by minor v (number.Value n) framing e is =
    let same : framed.Length n ≡ framing = cc in
    subst (IsFramedBy minor [] (v ∷ [])) same (refl, (v, refl, inl e))
length_by minor v number.Overflow framing e is =
    let same : framed.Length (2 ^ 64 - 1) ≡ framing = cc in
    subst (IsFramedBy minor [] (v ∷ [])) same (refl, (v, refl, inr (e, refl)))
length_by minor v number.NotANumber framing e is = cc

framed_by : (minor : ℕ) (codings lengths : List FieldValue) (framing : Framing) → framing_by minor codings lengths ≡ Ok framing → IsFramedBy minor codings lengths framing
framed_by minor [] [] framing e =
    let same : framed.None ≡ framing = cc in
    subst (IsFramedBy minor [] []) same (refl, refl)
framed_by minor [] (v ∷ []) framing e = length_by minor v (number_of 10 v.bytes) framing refl e
framed_by minor [] (v ∷ w ∷ more) framing e = cc
framed_by minor (t ∷ ts) (v ∷ vs) framing e = cc
framed_by minor (t ∷ []) [] framing e = by (eqb minor 0) (is_chunked t.bytes) refl refl e
  where
    by : (old chunked : Bool) → eqb minor 0 ≡ old → is_chunked t.bytes ≡ chunked
        → cond old (Err BadHead) (cond chunked (Ok framed.Chunked) (Err NotImplemented)) ≡ Ok framing → IsFramedBy minor (t ∷ []) [] framing
    by true chunked o c e = cc
    by false true o c e =
        let same : framed.Chunked ≡ framing = cc in
        subst (IsFramedBy minor (t ∷ []) []) same (refl, (λ z. absurd (false≢true (sym o ∙ eq-eqb minor 0 z))), (t, refl, c))
    by false false o c e = cc
framed_by minor (t ∷ u ∷ more) [] framing e = by (eqb minor 0) e
  where
    by : (old : Bool) → cond old (Err BadHead) (Err NotImplemented) ≡ Ok framing → IsFramedBy minor (t ∷ u ∷ more) [] framing
    by true e = cc
    by false e = cc

framed_so : (minor : ℕ) (fields : Entries FieldValue) (framing : Framing)
    → IsFramedBy minor (get_all fields (codes "transfer-encoding")) (get_all fields (codes "content-length")) framing → IsFramed minor fields framing
framed_so minor fields framed.None h = h
framed_so minor fields (framed.Length n) h = h
framed_so minor fields framed.Chunked h = h

-- ---- the framing of a request is that of its fields

-- the request has the framing of its version and fields
abbrev HasFraming : Request → Type 0
HasFraming r = framing_of r.minor r.fields ≡ Ok r.framing

abbrev request_in : Request → Result Request HeadRefusal → Request
request_in r (Ok found) = found
request_in r (Err refusal) = r

module _ (minor : ℕ) (method sent : List ℕ) (fields : Entries FieldValue) (r : Request) where
  to_target : (framing : Framing) (o : Option Target) → framing_of minor fields ≡ Ok framing → request_to minor method sent fields framing o ≡ Ok r → HasFraming r
  to_target framing None is e = cc
  to_target framing (Some target) is e = subst HasFraming (ap (request_in r) e) is

  by_framing : (o : Result Framing HeadRefusal) → framing_of minor fields ≡ o → request_by minor method sent fields o ≡ Ok r → HasFraming r
  by_framing (Err refusal) is e = cc
  by_framing (Ok framing) is e = by (bytes_eq method (codes "CONNECT")) e
    where
      by : (t : Bool) → cond t (Err NotImplemented) (request_to minor method sent fields framing (target_of sent)) ≡ Ok r → HasFraming r
      by true e = cc
      by false e = to_target framing (target_of sent) is e

  of_parts : request_of minor method sent fields ≡ Ok r → HasFraming r
  of_parts e = by (has_bad_host minor fields) e
    where
      by : (t : Bool) → cond t (Err BadHead) (request_by minor method sent fields (framing_of minor fields)) ≡ Ok r → HasFraming r
      by true e = cc
      by false e = by_framing (framing_of minor fields) refl e

of_read : (o : Option (RequestHead × List ℕ)) (r : Request) → request_read o ≡ Ok r → HasFraming r
of_read None r e = cc
of_read (Some p) r e = by (has_short_names p.0) e
  where
    by : (t : Bool) → cond t (request_of p.0.minor p.0.method p.0.target (map_of (pairs_of p.0))) (Err BadHead) ≡ Ok r → HasFraming r
    by true e = of_parts p.0.minor p.0.method p.0.target (map_of (pairs_of p.0)) r e
    by false e = cc

of_head : (bytes : List ℕ) (r : Request) → head_of bytes ≡ Ok r → HasFraming r
unfolding head_of
of_head bytes r e = by (ltb 64 (field_lines bytes)) (ends_in_other_version (start_line bytes)) e
  where
    by : (many other : Bool) → cond many (Err TooLarge) (cond other (Err BadVersion) (request_read (read_request bytes))) ≡ Ok r → HasFraming r
    by true other e = cc
    by false true e = cc
    by false false e = of_read (read_request bytes) r e

pub framed_once : (bytes : List ℕ) (r : Request) → head_of bytes ≡ Ok r → IsFramed r.minor r.fields r.framing
framed_once bytes r e =
    framed_so r.minor r.fields r.framing
    (framed_by r.minor (get_all r.fields (codes "transfer-encoding")) (get_all r.fields (codes "content-length")) r.framing (of_head bytes r e))
