-- The attributes that a condition may name (lighttpd documentation, "Conditional configuration").
use Rattle.std.specs.Prelude.{ℕ, List, Option, Some, None, bytes_eq, codes, if◌then◌else◌}
use Rattle.conf_value.specs.declared.condition.Field.{Field}
use Rattle.conf_value.specs.declared.condition.Field.TheVariants as field

-- `$HTTP["name"]`
abbrev pub http_field : List ℕ → Option Field
http_field name =
    if bytes_eq name (codes "host") then Some field.Host
    else (if bytes_eq name (codes "url") then Some field.Url
    else (if bytes_eq name (codes "query-string") then Some field.Query
    else (if bytes_eq name (codes "request-method") then Some field.Method
    else (if bytes_eq name (codes "scheme") then Some field.Scheme
    else (if bytes_eq name (codes "user-agent") then Some field.UserAgent
    else (if bytes_eq name (codes "referer") then Some field.Referer
    else (if bytes_eq name (codes "cookie") then Some field.Cookie
    else (if bytes_eq name (codes "remote-ip") then Some field.RemoteIp else None))))))))

-- `$SERVER["name"]`
abbrev pub server_field : List ℕ → Option Field
server_field name = if bytes_eq name (codes "socket") then Some field.Socket else None

-- `$PHYSICAL["name"]`
abbrev pub physical_field : List ℕ → Option Field
physical_field name = if bytes_eq name (codes "path") then Some field.Physical else None

-- `$group["name"]`; any name of a request header is one
abbrev pub field_of : List ℕ → List ℕ → Option Field
field_of group name =
    if bytes_eq group (codes "HTTP") then http_field name
    else (if bytes_eq group (codes "REQUEST_HEADER") then Some (field.Header name)
    else (if bytes_eq group (codes "SERVER") then server_field name
    else (if bytes_eq group (codes "PHYSICAL") then physical_field name else None)))
