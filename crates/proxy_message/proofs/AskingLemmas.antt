-- How long the head is that a gateway is asked.
use Rattle.std.proofs.Common.{◌≡◌, ◌⊎◌, inl, inr, ℕ, ◌+◌, ◌*◌, ◌/◌, ◌%◌, ◌≤◌, Bool, true, false, cond, leb, eqb, List, [], ◌∷◌, ◌++◌, length, flat_map, codes, decimal, refl, ap, subst, sym, arith, length-append}
use Rattle.std.specs.Prelude.{◌||◌, bytes_eq, sum_by}
use Rattle.std.proofs.lemmas.Bool.{cases_Bool}
use Rattle.std.proofs.lemmas.Slice.Eq.{bytes_eq-Decides}
use Rattle.std.proofs.lemmas.List.Sums.{sum_by-cons, sum_by-append}
use Rattle.std.proofs.lemmas.Grind.{flat_map-append}
use Rattle.http_header.specs.FieldValue.{FieldValue}
use Rattle.http_header.specs.HeaderMap.{Entry, Entries, entry_pairs, pairs, get_all}
use Rattle.http_reply.specs.Replies.{crlf, field_line}
use Rattle.cgi_text.specs.Request.{RequestParts, ip_text}
use Rattle.proxy_message.specs.Asking.{hex_digit, escaped_byte, escaped, request_line, is_own, is_withheld, kept_line, kept_lines, listed, forwarded_line, length_line, last_lines, own_lines, ask_of}
use Rattle.proxy_message.specs.Bounds.{line_size, lines_size, ask_limit}

-- ---- the request line

byte_size : (b : ℕ) → length (escaped_byte b) ≤ 3
byte_size b = by (leb b 32 || eqb b 127)
  where
    by : (t : Bool) → length (cond t (37 ∷ hex_digit (b / 16) ∷ hex_digit (b % 16) ∷ []) (b ∷ [])) ≤ 3
    by true = omega arith
    by false = omega arith

escaped_size : (target : List ℕ) → length (escaped target) ≤ 3 * length target
escaped_size [] = omega arith
escaped_size (b ∷ target) = omega (arith, byte_size b, escaped_size target, length-append (escaped_byte b) (escaped target))

request_line_size : (method target : List ℕ) → length (request_line method target) ≤ 12 + length method + 3 * length target
unfolding request_line
request_line_size method target =
    omega (
      arith,
      escaped_size target,
      length-append method (32 ∷ [] ++ (escaped target ++ (codes " HTTP/1.0" ++ crlf))),
      length-append (escaped target) (codes " HTTP/1.0" ++ crlf),
    )

-- ---- the fields of the request

field_line_size : (name value : List ℕ) → length (field_line (name, value)) ≡ length name + length value + 4
field_line_size name value = omega (arith, length-append name (codes ": " ++ (value ++ crlf)), length-append value crlf)

-- what is kept of the values on their lines
abbrev kept : Entries FieldValue → List (List ℕ × FieldValue) → List ℕ
kept fields lines = flat_map (λ (p : List ℕ × FieldValue). kept_line fields (p.0, p.1.bytes)) lines

kept_line_size : (fields : Entries FieldValue) (p : List ℕ × FieldValue) → length (kept_line fields (p.0, p.1.bytes)) ≤ line_size p
kept_line_size fields p = by (is_withheld fields p.0)
  where
    by : (t : Bool) → length (cond t [] (field_line (p.0, p.1.bytes))) ≤ line_size p
    by true = omega arith
    by false = omega (arith, field_line_size p.0 p.1.bytes)

kept_size : (fields : Entries FieldValue) (lines : List (List ℕ × FieldValue)) → length (kept fields lines) ≤ sum_by line_size lines
kept_size fields [] = omega arith
kept_size fields (p ∷ lines) =
    omega (
      arith,
      kept_line_size fields p,
      kept_size fields lines,
      sum_by-cons line_size p lines,
      length-append (kept_line fields (p.0, p.1.bytes)) (kept fields lines),
    )

none_kept : (fields : Entries FieldValue) (name : List ℕ) (values : List FieldValue) → is_withheld fields name ≡ true
    → kept fields (entry_pairs (name, values)) ≡ []
none_kept fields name [] t = refl
none_kept fields name (v ∷ values) t = rw t (none_kept fields name values t)

listed_size : (name : List ℕ) (values : List FieldValue) → length (listed values) ≤ sum_by line_size (entry_pairs (name, values))
listed_size name [] = omega arith
listed_size name (v ∷ values) =
    omega (
      arith,
      listed_size name values,
      sum_by-cons line_size (name, v) (entry_pairs (name, values)),
      length-append (v.bytes ++ codes ", ") (listed values),
      length-append v.bytes (codes ", "),
    )

forwarded_is_own : is_own (codes "x-forwarded-for") ≡ true
unfolding is_own
forwarded_is_own = refl

-- what the request lists stands in the proxy's own line alone
forwarded_stays : (fields : Entries FieldValue) (name : List ℕ) → bytes_eq name (codes "x-forwarded-for") ≡ true → is_withheld fields name ≡ true
forwarded_stays fields name t =
    subst (λ x. is_withheld fields x ≡ true) (sym ((bytes_eq-Decides name (codes "x-forwarded-for")).0 t)) (rw forwarded_is_own refl)

forwarded_first : (e : Entry FieldValue) (m : Entries FieldValue) → bytes_eq e.0 (codes "x-forwarded-for") ≡ true
    → get_all (e ∷ m) (codes "x-forwarded-for") ≡ e.1
forwarded_first e m t = rw t refl

forwarded_later : (e : Entry FieldValue) (m : Entries FieldValue) → bytes_eq e.0 (codes "x-forwarded-for") ≡ false
    → get_all (e ∷ m) (codes "x-forwarded-for") ≡ get_all m (codes "x-forwarded-for")
forwarded_later e m f = rw f refl

-- how much of some fields is passed on
abbrev passed : Entries FieldValue → Entries FieldValue → ℕ
passed fields m = length (kept fields (pairs m)) + length (listed (get_all m (codes "x-forwarded-for")))

kept_more : (fields : Entries FieldValue) (e : Entry FieldValue) (m : Entries FieldValue)
    → length (kept fields (pairs (e ∷ m))) ≡ length (kept fields (entry_pairs e)) + length (kept fields (pairs m))
kept_more fields e m =
    omega (
      arith,
      ap length (flat_map-append (λ (p : List ℕ × FieldValue). kept_line fields (p.0, p.1.bytes)) (entry_pairs e) (pairs m)),
      length-append (kept fields (entry_pairs e)) (kept fields (pairs m)),
    )

passed_size : (fields m : Entries FieldValue) → passed fields m ≤ lines_size m
passed_size fields [] = omega arith
passed_size fields (e ∷ m) = by (cases_Bool (bytes_eq e.0 (codes "x-forwarded-for"))) (passed_size fields m)
  where
    by : (bytes_eq e.0 (codes "x-forwarded-for") ≡ true) ⊎ (bytes_eq e.0 (codes "x-forwarded-for") ≡ false) → passed fields m ≤ lines_size m
        → passed fields (e ∷ m) ≤ lines_size (e ∷ m)
    by (inl t) rest =
        omega (
          arith,
          kept_more fields e m,
          sum_by-append line_size (entry_pairs e) (pairs m),
          ap (λ (bytes : List ℕ). length bytes) (none_kept fields e.0 e.1 (forwarded_stays fields e.0 t)),
          kept_size fields (pairs m),
          listed_size e.0 e.1,
          ap (λ (values : List FieldValue). length (listed values)) (forwarded_first e m t),
        )
    by (inr f) rest =
        omega (
          arith,
          rest,
          kept_more fields e m,
          sum_by-append line_size (entry_pairs e) (pairs m),
          kept_size fields (entry_pairs e),
          ap (λ (values : List FieldValue). length (listed values)) (forwarded_later e m f),
        )

-- ---- the fields of the proxy

forwarded_line_size : (r : RequestParts) → length (ip_text r.peer.ip) ≤ 15
    → length (forwarded_line r) ≤ 34 + length (listed (get_all r.fields (codes "x-forwarded-for")))
unfolding forwarded_line
forwarded_line_size r short =
    omega (
      arith,
      short,
      length-append (listed (get_all r.fields (codes "x-forwarded-for"))) (ip_text r.peer.ip ++ crlf),
      length-append (ip_text r.peer.ip) crlf,
    )

length_line_size : (framed : Bool) (n : ℕ) → length (decimal n) ≤ 20 → length (length_line framed n) ≤ 38
length_line_size true n short = omega (arith, short, field_line_size (codes "Content-Length") (decimal n))
length_line_size false n short = omega arith

last_lines_size : (framed : Bool) (n : ℕ) → length (decimal n) ≤ 20 → length (last_lines framed n) ≤ 84
unfolding last_lines
last_lines_size framed n short =
    omega (
      arith,
      length_line_size framed n short,
      length-append (length_line framed n) (field_line (codes "Connection", codes "close") ++ crlf),
    )

own_lines_size : (r : RequestParts) → length (ip_text r.peer.ip) ≤ 15 → length (decimal r.body_len) ≤ 20
    → length (own_lines r) ≤ 128 + length r.host_field + length (listed (get_all r.fields (codes "x-forwarded-for")))
unfolding own_lines
own_lines_size r ip body_len =
    omega (
      arith,
      forwarded_line_size r ip,
      last_lines_size r.framed r.body_len body_len,
      field_line_size (codes "X-Host") r.host_field,
      length-append (forwarded_line r) (field_line (codes "X-Host", r.host_field) ++ last_lines r.framed r.body_len),
      length-append (field_line (codes "X-Host", r.host_field)) (last_lines r.framed r.body_len),
    )

pub ask_size : (r : RequestParts) → length (ip_text r.peer.ip) ≤ 15 → length (decimal r.body_len) ≤ 20 → length (ask_of r) ≤ ask_limit r
ask_size r ip body_len =
    omega (
      arith,
      request_line_size r.method r.target,
      field_line_size (codes "Host") r.host_field,
      passed_size r.fields r.fields,
      own_lines_size r ip body_len,
      length-append (request_line r.method r.target) (field_line (codes "Host", r.host_field) ++ (kept_lines r.fields ++ own_lines r)),
      length-append (field_line (codes "Host", r.host_field)) (kept_lines r.fields ++ own_lines r),
      length-append (kept_lines r.fields) (own_lines r),
    )
