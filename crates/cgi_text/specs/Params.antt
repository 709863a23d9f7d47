-- The parameters of a request (RFC 3875, section 4.1; FastCGI Specification 1.0, section 6.2; lighttpd's mod_fastcgi).
use Rattle.std.specs.Prelude.{ℕ, ◌+◌, ◌*◌, ◌==◌, Bool, List, [], ◌∷◌, ◌++◌, length, map, sum_by, flat_map, bytes_eq, codes, decimal, if◌then◌else◌}
use Rattle.std.specs.Char.{is_ascii_alphanumeric, to_ascii_uppercase}
use Rattle.std.specs.List.{list_any}
use Rattle.http_header.specs.FieldValue.{FieldValue}
use Rattle.http_header.specs.HeaderMap.{Entry, Entries, get_all}
use Rattle.cgi_text.specs.Pairs.{PairList, pairs_bytes}
use Rattle.cgi_text.specs.Request.{RequestParts, ip_text}

-- the values, with the separator between each two
abbrev pub joined : List ℕ → List FieldValue → List ℕ
joined separator [] = []
joined separator (v ∷ values) = v.bytes ++ flat_map (λ w. separator ++ w.bytes) values

-- a letter in upper case, a digit as it is, and an underscore for any other byte
abbrev pub variable_byte : ℕ → ℕ
variable_byte b = if is_ascii_alphanumeric b then to_ascii_uppercase b else 95

-- the parameter's name for a field (RFC 3875, section 4.1.18)
abbrev pub variable_name : List ℕ → List ℕ
variable_name name = codes "HTTP_" ++ map variable_byte name

-- fields that are no parameter of their own name: two have their own parameter, two frame one message on one
-- connection, and HTTP_PROXY would name a proxy to many programs
abbrev pub left_out : List (List ℕ)
left_out =
    codes "content-length" ∷ codes "content-type" ∷ codes "transfer-encoding" ∷ codes "connection" ∷ codes "proxy" ∷ []

abbrev pub is_left_out : List ℕ → Bool
is_left_out name = list_any (bytes_eq name) left_out

-- what stands between two values of a field (RFC 9110, section 5.3; RFC 6265, section 5.4)
abbrev pub separator_of : List ℕ → List ℕ
separator_of name = if bytes_eq name (codes "cookie") then codes "; " else codes ", "

abbrev pub field_param : Entry FieldValue → PairList
field_param e =
    if is_left_out e.0 then [] else (variable_name e.0, joined (separator_of e.0) e.1) ∷ []

-- one parameter for each name, in order of first coming
abbrev pub field_params : Entries FieldValue → PairList
field_params fields = flat_map field_param fields

abbrev pub type_param : List FieldValue → PairList
type_param [] = []
type_param (v ∷ values) = (codes "CONTENT_TYPE", joined (codes ", ") (v ∷ values)) ∷ []

abbrev pub info_param : List ℕ → PairList
info_param [] = []
info_param (b ∷ info) = (codes "PATH_INFO", b ∷ info) ∷ []

-- the host, or the server's address where the request names none
abbrev pub server_name : List ℕ → List ℕ → List ℕ
server_name [] ip = ip_text ip
server_name (b ∷ host) ip = b ∷ host

-- the version of the request
abbrev pub protocol : ℕ → List ℕ
protocol minor = if minor == 0 then codes "HTTP/1.0" else codes "HTTP/1.1"

-- of the server and of the start line
unfoldable pub request_params : RequestParts → PairList
request_params r =
    (codes "GATEWAY_INTERFACE", codes "CGI/1.1")
    ∷ (codes "SERVER_SOFTWARE", r.tag)
    ∷ (codes "SERVER_PROTOCOL", protocol r.minor)
    ∷ (codes "REQUEST_METHOD", r.method)
    ∷ (codes "REQUEST_URI", r.uri)
    ∷ (codes "QUERY_STRING", r.query)
    ∷ []

-- of the script
unfoldable pub script_params : RequestParts → PairList
script_params r =
    (codes "DOCUMENT_ROOT", r.root)
    ∷ (codes "SCRIPT_NAME", r.script)
    ∷ (codes "SCRIPT_FILENAME", r.root ++ r.script)
    ∷ info_param r.info

-- of the two ends of the connection
unfoldable pub address_params : RequestParts → PairList
address_params r =
    (codes "SERVER_NAME", server_name r.host r.local.ip)
    ∷ (codes "SERVER_ADDR", ip_text r.local.ip)
    ∷ (codes "SERVER_PORT", decimal r.local.port)
    ∷ (codes "REMOTE_ADDR", ip_text r.peer.ip)
    ∷ (codes "REMOTE_PORT", decimal r.peer.port)
    ∷ []

-- of the body
unfoldable pub body_params : RequestParts → PairList
body_params r =
    (codes "CONTENT_LENGTH", decimal r.body_len)
    ∷ (codes "REDIRECT_STATUS", codes "200")
    ∷ type_param (get_all r.fields (codes "content-type"))

-- all parameters, in order
abbrev pub params_of : RequestParts → PairList
params_of r =
    request_params r ++ (script_params r ++ (address_params r ++ (body_params r ++ field_params r.fields)))

-- the content of the PARAMS stream
abbrev pub params : RequestParts → List ℕ
params r = pairs_bytes (params_of r)

-- how many bytes the values of a name have, each with the two that may join it to another
abbrev pub values_size : List FieldValue → ℕ
values_size values = sum_by (λ v. length v.bytes + 2) values

-- how many bytes the names of the fields and their values have
abbrev pub fields_size : Entries FieldValue → ℕ
fields_size fields = sum_by (λ e. length e.0 + values_size e.1) fields

abbrev pub texts_size : RequestParts → ℕ
texts_size r =
    length r.method + length r.uri + length r.target + length r.query + length r.root + length r.script
    + length r.info + length r.tag + length r.host + length r.host_field

-- how many bytes the texts of a request and its fields have together
abbrev pub request_size : RequestParts → ℕ
request_size r = texts_size r + fields_size r.fields

-- the most bytes that the parameters of a request have: the document root and the script stand in SCRIPT_FILENAME once
-- more, each name of a field has two lengths and HTTP_ beside it, and the rest are the names and the numbers
abbrev pub params_limit : RequestParts → ℕ
params_limit r = 465 + request_size r + length r.root + length r.script + 13 * length r.fields
