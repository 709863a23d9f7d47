-- Parameters that may be left out, and those of the fields.
use Rattle.std.proofs.Common.{◌≡◌, ◌≢◌, ◌⊎◌, inl, inr, ℕ, zero, suc, ◌<◌, true, false, List, [], ◌∷◌, ◌++◌, length, flat_map, codes, Some, None, Result, Ok, Err, OnOk, All, slice_get, sym, refl, ap, ◌∙◌, arith, append-nil, append_assoc}
use Rattle.std.specs.Prelude.{bytes_eq, ◌==◌}
use Rattle.std.proofs.lemmas.Slice.Eq.{bytes_eq-Decides}
use Rattle.std.proofs.lemmas.Bool.{cases_Bool, eqb-true}
use Rattle.std.proofs.lemmas.List.{get_or-map, length-map}
use Rattle.std.proofs.lemmas.Grind.{flat_map-append}
use Rattle.std.proofs.lemmas.List.Elements.{All-head, All-tail}
use Rattle.http_header.specs.FieldValue.{FieldValue}
use Rattle.http_header.specs.HeaderMap.{Entry, Entries, keys, get_all, IsUnique}
use Rattle.cgi_text.specs.Pairs.{pair_bytes, pairs_bytes}
use Rattle.cgi_text.specs.Request.{RequestParts, ip_text}
use Rattle.cgi_text.specs.Params.{joined, info_param, type_param, server_name, field_param, field_params, request_params, script_params, address_params, body_params, params}

pub info_there : (info : List ℕ) → (length info == 0) ≡ false → pairs_bytes (info_param info) ≡ pair_bytes (codes "PATH_INFO", info)
info_there [] e = cc
info_there (b ∷ info) e = append-nil (pair_bytes (codes "PATH_INFO", b ∷ info))

pub no_host : (host ip : List ℕ) → (length host == 0) ≡ true → server_name host ip ≡ ip_text ip
no_host [] ip e = refl
no_host (b ∷ host) ip e = absurd (omega (arith, eqb-true (length (b ∷ host)) 0 e))

pub host_there : (host ip : List ℕ) → (length host == 0) ≡ false → server_name host ip ≡ host
host_there [] ip e = cc
host_there (b ∷ host) ip e = refl

pub no_type : (values : List FieldValue) → None ≡ slice_get values 0 → pairs_bytes (type_param values) ≡ []
no_type [] e = refl
no_type (v ∷ values) e = cc

pub type_there : (v : FieldValue) (values : List FieldValue) → Some v ≡ slice_get values 0
    → pairs_bytes (type_param values) ≡ pair_bytes (codes "CONTENT_TYPE", joined (codes ", ") values)
type_there v [] e = cc
type_there v (w ∷ values) e = append-nil (pair_bytes (codes "CONTENT_TYPE", joined (codes ", ") (w ∷ values)))

-- the bytes of the parameter of an entry
abbrev bytes_of : Entry FieldValue → List ℕ
bytes_of e = pairs_bytes (field_param e)

-- an entry in front changes nothing for other names
skip : (e : Entry FieldValue) (m : Entries FieldValue) (ks : List (List ℕ)) → All (λ k. e.0 ≢ k) ks
    → flat_map (λ k. bytes_of (k, get_all (e ∷ m) k)) ks ≡ flat_map (λ k. bytes_of (k, get_all m k)) ks
skip e m [] h = refl
skip e m (k ∷ ks) h = by (cases_Bool (bytes_eq e.0 k)) (skip e m ks (All-tail (λ k. e.0 ≢ k) k ks h))
  where
    by : (bytes_eq e.0 k ≡ true) ⊎ (bytes_eq e.0 k ≡ false) → flat_map (λ k. bytes_of (k, get_all (e ∷ m) k)) ks ≡ flat_map (λ k. bytes_of (k, get_all m k)) ks
        → flat_map (λ k. bytes_of (k, get_all (e ∷ m) k)) (k ∷ ks) ≡ flat_map (λ k. bytes_of (k, get_all m k)) (k ∷ ks)
    by (inl t) more = absurd (All-head (λ k. e.0 ≢ k) k ks h ((bytes_eq-Decides e.0 k).0 t))
    by (inr f) more = rw f (ap (λ r. bytes_of (k, get_all m k) ++ r) more)

-- no later name is that of the first entry
apart : (e : Entry FieldValue) (m : Entries FieldValue) → IsUnique (e ∷ m) → All (λ k. e.0 ≢ k) (keys m)
apart e m u = λ k d h same.
    let within : k < length m = omega (arith, h, length-map m (λ (x : Entry FieldValue). x.0)) in
    let z : zero ≡ suc k = u zero (suc k) (omega arith) (omega arith) (same ∙ get_or-map (λ (x : Entry FieldValue). x.0) m k ([], []) d within) in
    absurd (omega (arith, z))

unique_tail : (e : Entry FieldValue) (m : Entries FieldValue) → IsUnique (e ∷ m) → IsUnique m
unique_tail e m u = λ i j hi hj same. let z : suc i ≡ suc j = u (suc i) (suc j) (omega arith) (omega arith) same in omega (arith, z)

-- the map has under each name what its entry has
entries : (m : Entries FieldValue) → IsUnique m → flat_map (λ k. bytes_of (k, get_all m k)) (keys m) ≡ flat_map bytes_of m
entries [] u = refl
entries (e ∷ m) u =
    rw ((bytes_eq-Decides e.0 e.0).1 refl) (ap (λ r. bytes_of e ++ r) (skip e m (keys m) (apart e m u) ∙ entries m (unique_tail e m u)))

flat : (m : Entries FieldValue) → flat_map bytes_of m ≡ pairs_bytes (field_params m)
flat [] = refl
flat (e ∷ m) = ap (λ r. bytes_of e ++ r) (flat m) ∙ sym (flat_map-append pair_bytes (field_param e) (field_params m))

-- all names are passed
pub all_fields : (m : Entries FieldValue) (rest : List (List ℕ)) (before text : List ℕ) → IsUnique m → rest ≡ []
    → before ++ flat_map (λ n. pairs_bytes (field_param (n, get_all m n))) (keys m) ≡ text ++ flat_map (λ n. pairs_bytes (field_param (n, get_all m n))) rest
    → text ≡ before ++ pairs_bytes (field_params m)
all_fields m rest before text u e all =
    sym (append-nil text)
    ∙ ap (λ r. text ++ flat_map (λ n. pairs_bytes (field_param (n, get_all m n))) r) (sym e)
    ∙ sym all
    ∙ ap (λ b. before ++ b) (entries m u ∙ flat m)

-- what an answer says where it is `Ok`
pub on_ok : {A E P Q : Type 0} → (r : Result A E) → (P → Q) → OnOk r P → OnOk r Q
on_ok (Ok a) f h = f h
on_ok (Err e) f h = tt

-- five pieces, one after another
pub five : (old x1 x2 x3 x4 y p1 p2 p3 p4 p5 : List ℕ) → x1 ≡ old ++ p1 → x2 ≡ x1 ++ p2 → x3 ≡ x2 ++ p3 → x4 ≡ x3 ++ p4 → y ≡ x4 ++ p5
    → y ≡ old ++ (p1 ++ (p2 ++ (p3 ++ (p4 ++ (p5 ++ [])))))
five old x1 x2 x3 x4 y p1 p2 p3 p4 p5 e1 e2 e3 e4 e5 = e5 ∙ simp (e4, e3, e2, e1, append_assoc, append-nil)

-- the parts of all parameters, one after another
pub whole : (t0 t1 t2 t3 t4 t5 : List ℕ) (r : RequestParts) → t0 ≡ []
    → t1 ≡ t0 ++ pairs_bytes (request_params r) → t2 ≡ t1 ++ pairs_bytes (script_params r) → t3 ≡ t2 ++ pairs_bytes (address_params r)
    → t4 ≡ t3 ++ pairs_bytes (body_params r) → t5 ≡ t4 ++ pairs_bytes (field_params r.fields) → t5 ≡ params r
whole t0 t1 t2 t3 t4 t5 r e0 e1 e2 e3 e4 e5 = e5 ∙ simp (e4, e3, e2, e1, e0, append_assoc, flat_map-append)
