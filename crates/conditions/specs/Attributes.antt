-- What conditions see of a request, over plain lists, and the value of each attribute as a text.
use Rattle.std.specs.Prelude.{ℕ, List, [], ◌∷◌, ◌++◌, flat_map, codes, decimal, slice_index, Option, Some, option_map, if◌then◌else◌}
use Rattle.http_header.specs.FieldValue.{FieldValue}
use Rattle.http_header.specs.HeaderMap.{Entries, get_all}
use Rattle.http_header.specs.Token.{lowercase}
use Rattle.lt_bytes.specs.Words.{same_word}
use Rattle.lt_world.specs.declared.net.Address.{Address}
use Rattle.conf_value.specs.declared.condition.Field.{Field}
use Rattle.conf_value.specs.declared.condition.Field.TheVariants as field
use Rattle.conditions.specs.declared.attrs.Attrs.{Attrs}

-- host without port in lower case, path in normal form, query and method as sent, both addresses, the fields, and the
-- path of the file, once it is known
pub record Attributes : Type 0 where
  pub host : List ℕ
  pub url : List ℕ
  pub query : List ℕ
  pub method : List ℕ
  pub peer : Address
  pub local : Address
  pub fields : Entries FieldValue
  pub physical : Option (List ℕ)

-- the attributes that are lent
abbrev pub attributes_of : Attrs → Attributes
attributes_of a = record {
  host = a.host.now;
  url = a.url.now;
  query = a.query.now;
  method = a.method.now;
  peer = a.peer;
  local = a.local;
  fields = a.fields.now;
  physical = option_map (λ path. path.now) a.physical;
}

-- an IPv4 address in dotted decimal form
abbrev pub ip_text : List ℕ → List ℕ
ip_text ip =
    decimal (slice_index ip 0) ++ 46 ∷ [] ++ (decimal (slice_index ip 1) ++ 46 ∷ [] ++ (decimal (slice_index ip 2) ++ 46 ∷ [] ++ decimal (slice_index ip 3)))

-- an address and its port
abbrev pub socket_text : Address → List ℕ
socket_text a = ip_text a.ip ++ 58 ∷ decimal a.port

-- the values, with the separator between each two
abbrev pub joined : List ℕ → List FieldValue → List ℕ
joined separator [] = []
joined separator (v ∷ values) = v.bytes ++ flat_map (λ w. separator ++ w.bytes) values

-- what stands between two values of a field (RFC 9110, section 5.3; RFC 6265, section 5.4)
abbrev pub separator_of : List ℕ → List ℕ
separator_of name = if same_word name (codes "cookie") then codes "; " else codes ", "

-- the value of a field, by its name in any case; empty where the field is absent
abbrev pub field_value : Entries FieldValue → List ℕ → List ℕ
field_value fields name = joined (separator_of name) (get_all fields (lowercase name))

-- the value of an attribute, where it is known
abbrev pub value_of : Field → Attributes → Option (List ℕ)
value_of field.Host a = Some a.host
value_of field.Url a = Some a.url
value_of field.Query a = Some a.query
value_of field.Method a = Some a.method
value_of field.Scheme a = Some (codes "http")
value_of field.UserAgent a = Some (field_value a.fields (codes "User-Agent"))
value_of field.Referer a = Some (field_value a.fields (codes "Referer"))
value_of field.Cookie a = Some (field_value a.fields (codes "Cookie"))
value_of (field.Header name) a = Some (field_value a.fields name)
value_of field.RemoteIp a = Some (ip_text a.peer.ip)
value_of field.Socket a = Some (socket_text a.local)
value_of field.Physical a = a.physical
