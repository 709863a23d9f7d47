-- What an HTTP gateway is asked (RFC 9110, section 7.6.1; RFC 9112, section 3; lighttpd's mod_proxy): the head, up to and
-- with its empty line.
use Rattle.std.specs.Prelude.{ℕ, ◌+◌, ◌/◌, ◌%◌, Bool, ◌||◌, ◌==◌, nat_le, nat_lt, List, [], ◌∷◌, ◌++◌, flat_map, bytes_eq, codes, decimal, if◌then◌else◌}
use Rattle.std.specs.List.{list_any}
use Rattle.http_header.specs.FieldValue.{FieldValue}
use Rattle.http_header.specs.HeaderMap.{Entries, get_all, pairs}
use Rattle.http_head.specs.Options.{has_option}
use Rattle.http_reply.specs.Replies.{crlf, field_line}
use Rattle.cgi_text.specs.Request.{RequestParts, ip_text}

-- a hexadecimal digit in upper case
abbrev pub hex_digit : ℕ → ℕ
hex_digit n = if nat_lt n 10 then 48 + n else 55 + n

-- a byte that stands in no request line, as %XX (RFC 3986, section 2.1)
abbrev pub escaped_byte : ℕ → List ℕ
escaped_byte b = if nat_le b 32 || b == 127 then 37 ∷ hex_digit (b / 16) ∷ hex_digit (b % 16) ∷ [] else b ∷ []

abbrev pub escaped : List ℕ → List ℕ
escaped target = flat_map escaped_byte target

-- method SP request-target SP HTTP-version CRLF
unfoldable pub request_line : List ℕ → List ℕ → List ℕ
request_line method target = method ++ (32 ∷ [] ++ (escaped target ++ (codes " HTTP/1.0" ++ crlf)))

-- the fields that the proxy writes itself, and Expect, which was answered here
abbrev pub own_names : List (List ℕ)
own_names =
    codes "content-length"
    ∷ codes "expect"
    ∷ codes "x-forwarded-for"
    ∷ codes "x-forwarded-proto"
    ∷ codes "x-host"
    ∷ codes "host"
    ∷ []

-- the fields that speak of one connection alone, and Proxy, which a gateway could take for a variable of its own
abbrev pub connection_names : List (List ℕ)
connection_names =
    codes "connection"
    ∷ codes "keep-alive"
    ∷ codes "proxy-connection"
    ∷ codes "proxy"
    ∷ codes "trailer"
    ∷ codes "transfer-encoding"
    ∷ codes "upgrade"
    ∷ codes "te"
    ∷ []

unfoldable pub is_own : List ℕ → Bool
is_own name = list_any (bytes_eq name) own_names

unfoldable pub is_of_connection : List ℕ → Bool
is_of_connection name = list_any (bytes_eq name) connection_names

-- a name in lower case is one of them, or one that Connection lists
abbrev pub is_withheld : Entries FieldValue → List ℕ → Bool
is_withheld fields name = is_own name || is_of_connection name || has_option fields name

abbrev pub kept_line : Entries FieldValue → List ℕ × List ℕ → List ℕ
kept_line fields line = if is_withheld fields line.0 then [] else field_line line

-- each value of the other fields on its own line, by name in order of first coming
abbrev pub kept_lines : Entries FieldValue → List ℕ
kept_lines fields = flat_map (λ p. kept_line fields (p.0, p.1.bytes)) (pairs fields)

-- each value, and a comma and a space behind it
abbrev pub listed : List FieldValue → List ℕ
listed values = flat_map (λ v. v.bytes ++ codes ", ") values

-- the client's address behind those that the request lists
unfoldable pub forwarded_line : RequestParts → List ℕ
forwarded_line r = codes "X-Forwarded-For: " ++ (listed (get_all r.fields (codes "x-forwarded-for")) ++ (ip_text r.peer.ip ++ crlf))

abbrev pub length_line : Bool → ℕ → List ℕ
length_line framed n = if framed then field_line (codes "Content-Length", decimal n) else []

-- the last fields, and the empty line
unfoldable pub last_lines : Bool → ℕ → List ℕ
last_lines framed n =
    field_line (codes "X-Forwarded-Proto", codes "http") ++ (length_line framed n ++ (field_line (codes "Connection", codes "close") ++ crlf))

-- the fields that the proxy writes behind the request's
unfoldable pub own_lines : RequestParts → List ℕ
own_lines r = forwarded_line r ++ (field_line (codes "X-Host", r.host_field) ++ last_lines r.framed r.body_len)

abbrev pub ask_of : RequestParts → List ℕ
ask_of r = request_line r.method r.target ++ (field_line (codes "Host", r.host_field) ++ (kept_lines r.fields ++ own_lines r))
