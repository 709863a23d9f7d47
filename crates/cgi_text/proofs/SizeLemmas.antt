-- How long the parameters of a request are.
use Rattle.std.proofs.Common.{◌≡◌, ◌⊎◌, inl, inr, ℕ, ◌+◌, ◌*◌, ◌/◌, ◌%◌, ◌≤◌, Bool, true, false, cond, eqb, leb, List, [], ◌∷◌, ◌++◌, length, map, flat_map, codes, decimal, refl, ap, subst, sym, arith, length-append}
use Rattle.std.specs.Prelude.{bytes_eq}
use Rattle.std.proofs.lemmas.Bool.{cases_Bool}
use Rattle.std.proofs.lemmas.Slice.Eq.{bytes_eq-Decides}
use Rattle.std.proofs.lemmas.List.{length-map}
use Rattle.std.proofs.lemmas.List.Sums.{sum_by-cons}
use Rattle.std.proofs.lemmas.Grind.{flat_map-append}
use Rattle.http_header.specs.FieldValue.{FieldValue}
use Rattle.http_header.specs.HeaderMap.{Entry, Entries, get_all}
use Rattle.cgi_text.specs.Pairs.{PairList, length_bytes, pair_bytes, pairs_bytes}
use Rattle.cgi_text.specs.Request.{RequestParts, ip_text}
use Rattle.cgi_text.specs.Params.{joined, variable_byte, variable_name, is_left_out, separator_of, field_param, field_params, type_param, info_param, server_name, protocol, request_params, script_params, address_params, body_params, params, values_size, fields_size, params_limit}

length_size : (n : ℕ) → length (length_bytes n) ≤ 4
unfolding length_bytes
length_size n = by (leb n 127)
  where
    by : (t : Bool) → length (cond t (n ∷ []) ((128 + n / 16777216 % 128) ∷ (n / 65536 % 256) ∷ (n / 256 % 256) ∷ (n % 256) ∷ [])) ≤ 4
    by true = omega arith
    by false = omega arith

pair_size : (p : List ℕ × List ℕ) → length (pair_bytes p) ≤ 8 + length p.0 + length p.1
unfolding pair_bytes
pair_size p =
    omega (
      arith,
      length_size (length p.0),
      length_size (length p.1),
      length-append (length_bytes (length p.0)) (length_bytes (length p.1) ++ (p.0 ++ p.1)),
      length-append (length_bytes (length p.1)) (p.0 ++ p.1),
      length-append p.0 p.1,
    )

abbrev most : PairList → ℕ
most [] = 0
most (p ∷ pairs) = 8 + length p.0 + length p.1 + most pairs

pairs_size : (pairs : PairList) → length (pairs_bytes pairs) ≤ most pairs
pairs_size [] = omega arith
pairs_size (p ∷ pairs) = omega (arith, pair_size p, pairs_size pairs, length-append (pair_bytes p) (pairs_bytes pairs))

both : (xs ys : PairList) → length (pairs_bytes (xs ++ ys)) ≡ length (pairs_bytes xs) + length (pairs_bytes ys)
both xs ys = omega (arith, ap length (flat_map-append pair_bytes xs ys), length-append (pairs_bytes xs) (pairs_bytes ys))

-- ---- the fields

separator_size : (name : List ℕ) → length (separator_of name) ≡ 2
separator_size name = by (bytes_eq name (codes "cookie"))
  where
    by : (t : Bool) → length (cond t (codes "; ") (codes ", ")) ≡ 2
    by true = refl
    by false = refl

more_size : (separator : List ℕ) (values : List FieldValue) → length separator ≡ 2 → length (flat_map (λ (w : FieldValue). separator ++ w.bytes) values) ≤ values_size values
more_size separator [] two = omega arith
more_size separator (v ∷ values) two =
    omega (
      arith,
      more_size separator values two,
      sum_by-cons (λ (w : FieldValue). length w.bytes + 2) v values,
      length-append (separator ++ v.bytes) (flat_map (λ (w : FieldValue). separator ++ w.bytes) values),
      length-append separator v.bytes,
    )

joined_size : (separator : List ℕ) (values : List FieldValue) → length separator ≡ 2 → length (joined separator values) ≤ values_size values
joined_size separator [] two = omega arith
joined_size separator (v ∷ values) two =
    omega (
      arith,
      more_size separator values two,
      sum_by-cons (λ (w : FieldValue). length w.bytes + 2) v values,
      length-append v.bytes (flat_map (λ (w : FieldValue). separator ++ w.bytes) values),
    )

field_size : (e : Entry FieldValue) → length (pairs_bytes (field_param e)) ≤ 13 + length e.0 + values_size e.1
field_size e = by (is_left_out e.0)
  where
    by : (t : Bool) → length (pairs_bytes (cond t [] ((variable_name e.0, joined (separator_of e.0) e.1) ∷ []))) ≤ 13 + length e.0 + values_size e.1
    by true = omega arith
    by false =
        let one : length (pairs_bytes ((variable_name e.0, joined (separator_of e.0) e.1) ∷ [])) ≤ 8 + length (variable_name e.0) + length (joined (separator_of e.0) e.1) + 0 =
        pairs_size ((variable_name e.0, joined (separator_of e.0) e.1) ∷ []) in
        let name : length (variable_name e.0) ≡ 5 + length (map variable_byte e.0) = length-append (codes "HTTP_") (map variable_byte e.0) in
        omega (arith, one, name, length-map e.0 variable_byte, joined_size (separator_of e.0) e.1 (separator_size e.0))

type_size : (values : List FieldValue) → length (pairs_bytes (type_param values)) ≤ 20 + values_size values
type_size [] = omega arith
type_size (v ∷ values) =
    let one : length (pairs_bytes (type_param (v ∷ values))) ≤ 8 + 12 + length (joined (codes ", ") (v ∷ values)) + 0 = pairs_size (type_param (v ∷ values)) in
    omega (arith, one, joined_size (codes ", ") (v ∷ values) refl)

more_fields : (e : Entry FieldValue) (m : Entries FieldValue) → fields_size (e ∷ m) ≡ (length e.0 + values_size e.1) + fields_size m
more_fields e m = sum_by-cons (λ (x : Entry FieldValue). length x.0 + values_size x.1) e m

fields_fit : (m : Entries FieldValue) → length (pairs_bytes (field_params m)) ≤ fields_size m + 13 * length m
fields_fit [] = omega arith
fields_fit (e ∷ m) = omega (arith, more_fields e m, field_size e, fields_fit m, both (field_param e) (field_params m))

-- the media type of the body stands under its own name alone
typed : (e : Entry FieldValue) → bytes_eq e.0 (codes "content-type") ≡ true → field_param e ≡ []
typed e t = subst (λ name. field_param (name, e.1) ≡ []) (sym ((bytes_eq-Decides e.0 (codes "content-type")).0 t)) refl

-- the bytes of the media type and of the other fields
abbrev typed_size : Entries FieldValue → ℕ
typed_size m = length (pairs_bytes (type_param (get_all m (codes "content-type")))) + length (pairs_bytes (field_params m))

type_first : (e : Entry FieldValue) (m : Entries FieldValue) → bytes_eq e.0 (codes "content-type") ≡ true → get_all (e ∷ m) (codes "content-type") ≡ e.1
type_first e m t = rw t refl

type_later : (e : Entry FieldValue) (m : Entries FieldValue) → bytes_eq e.0 (codes "content-type") ≡ false
    → get_all (e ∷ m) (codes "content-type") ≡ get_all m (codes "content-type")
type_later e m f = rw f refl

-- the bytes of the media type
abbrev of_type : List FieldValue → ℕ
of_type values = length (pairs_bytes (type_param values))

types_fit : (m : Entries FieldValue) → typed_size m ≤ 20 + fields_size m + 13 * length m
types_fit [] = omega arith
types_fit (e ∷ m) = by (cases_Bool (bytes_eq e.0 (codes "content-type"))) (types_fit m)
  where
    by : (bytes_eq e.0 (codes "content-type") ≡ true) ⊎ (bytes_eq e.0 (codes "content-type") ≡ false) → typed_size m ≤ 20 + fields_size m + 13 * length m
        → typed_size (e ∷ m) ≤ 20 + fields_size (e ∷ m) + 13 * length (e ∷ m)
    by (inl t) rest =
        omega (
          arith,
          more_fields e m,
          type_size e.1,
          fields_fit m,
          both (field_param e) (field_params m),
          ap (λ (ps : PairList). length (pairs_bytes ps)) (typed e t),
          ap of_type (type_first e m t),
        )
    by (inr f) rest = omega (arith, rest, more_fields e m, field_size e, both (field_param e) (field_params m), ap of_type (type_later e m f))

-- ---- the other parameters

protocol_size : (minor : ℕ) → length (protocol minor) ≡ 8
protocol_size minor = by (eqb minor 0)
  where
    by : (t : Bool) → length (cond t (codes "HTTP/1.0") (codes "HTTP/1.1")) ≡ 8
    by true = refl
    by false = refl

request_size_is : (r : RequestParts) → length (pairs_bytes (request_params r)) ≤ 147 + length r.tag + length r.method + length r.uri + length r.query
unfolding request_params
request_size_is r =
    let sum : length (pairs_bytes (request_params r))
    ≤ 32 + (23 + length r.tag + (23 + length (protocol r.minor) + (22 + length r.method + (19 + length r.uri + (20 + length r.query + 0))))) = pairs_size (request_params r) in
    omega (arith, sum, protocol_size r.minor)

info_size : (info : List ℕ) → length (pairs_bytes (info_param info)) ≤ 17 + length info
info_size [] = omega arith
info_size (b ∷ info) =
    let one : length (pairs_bytes (info_param (b ∷ info))) ≤ 17 + length (b ∷ info) + 0 = pairs_size (info_param (b ∷ info)) in omega (arith, one)

script_size : (r : RequestParts) → length (pairs_bytes (script_params r)) ≤ 80 + length r.root + length r.script + (length r.root + length r.script) + length r.info
unfolding script_params
script_size r =
    let three : PairList = (codes "DOCUMENT_ROOT", r.root) ∷ (codes "SCRIPT_NAME", r.script) ∷ (codes "SCRIPT_FILENAME", r.root ++ r.script) ∷ [] in
    let sum : length (pairs_bytes three) ≤ 21 + length r.root + (19 + length r.script + (23 + length (r.root ++ r.script) + 0)) = pairs_size three in
    omega (arith, sum, both three (info_param r.info), info_size r.info, length-append r.root r.script)

-- an address has three dots beside its parts
pub ip_size : (a b c d : List ℕ) → length a ≤ 3 → length b ≤ 3 → length c ≤ 3 → length d ≤ 3
    → length (a ++ 46 ∷ [] ++ (b ++ 46 ∷ [] ++ (c ++ 46 ∷ [] ++ d))) ≤ 15
ip_size a b c d ha hb hc hd =
    omega (
      arith,
      length-append (a ++ 46 ∷ []) (b ++ 46 ∷ [] ++ (c ++ 46 ∷ [] ++ d)),
      length-append (b ++ 46 ∷ []) (c ++ 46 ∷ [] ++ d),
      length-append (c ++ 46 ∷ []) d,
      length-append a (46 ∷ []),
      length-append b (46 ∷ []),
      length-append c (46 ∷ []),
    )

-- the numbers of a request in decimal form are as short as their types are
pub record IsShortInDigits (r : RequestParts) : Type 0 where
  pub local_ip : length (ip_text r.local.ip) ≤ 15
  pub peer_ip : length (ip_text r.peer.ip) ≤ 15
  pub local_port : length (decimal r.local.port) ≤ 5
  pub peer_port : length (decimal r.peer.port) ≤ 5
  pub body_len : length (decimal r.body_len) ≤ 20

server_name_size : (host ip : List ℕ) → length (server_name host ip) ≤ length host + length (ip_text ip)
server_name_size [] ip = omega arith
server_name_size (b ∷ host) ip = omega arith

address_size : (r : RequestParts) → IsShortInDigits r → length (pairs_bytes (address_params r)) ≤ 150 + length r.host
unfolding address_params
address_size r short =
    let sum : length (pairs_bytes (address_params r))
    ≤ 19 + length (server_name r.host r.local.ip)
    + (19 + length (ip_text r.local.ip) + (19 + length (decimal r.local.port) + (19 + length (ip_text r.peer.ip) + (19 + length (decimal r.peer.port) + 0)))) =
    pairs_size (address_params r) in
    omega (arith, sum, server_name_size r.host r.local.ip, short.local_ip, short.peer_ip, short.local_port, short.peer_port)

-- the type of the body, and the fields
body_size : (r : RequestParts) → IsShortInDigits r
    → length (pairs_bytes (body_params r)) + length (pairs_bytes (field_params r.fields)) ≤ 88 + fields_size r.fields + 13 * length r.fields
unfolding body_params
body_size r short =
    let two : PairList = (codes "CONTENT_LENGTH", decimal r.body_len) ∷ (codes "REDIRECT_STATUS", codes "200") ∷ [] in
    let sum : length (pairs_bytes two) ≤ 22 + length (decimal r.body_len) + 26 = pairs_size two in
    omega (arith, sum, short.body_len, both two (type_param (get_all r.fields (codes "content-type"))), types_fit r.fields)

pub params_size : (r : RequestParts) → IsShortInDigits r → length (params r) ≤ params_limit r
params_size r short =
    let behind_address : PairList = body_params r ++ field_params r.fields in
    let behind_script : PairList = address_params r ++ behind_address in
    omega (
      arith,
      request_size_is r,
      script_size r,
      address_size r short,
      body_size r short,
      both (request_params r) (script_params r ++ behind_script),
      both (script_params r) behind_script,
      both (address_params r) behind_address,
      both (body_params r) (field_params r.fields),
    )
