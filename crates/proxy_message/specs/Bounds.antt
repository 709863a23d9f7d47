-- How long the head is that an HTTP gateway is asked.
use Rattle.std.specs.Prelude.{ℕ, ◌+◌, ◌*◌, List, length, sum_by}
use Rattle.http_header.specs.FieldValue.{FieldValue}
use Rattle.http_header.specs.HeaderMap.{Entries, pairs}
use Rattle.cgi_text.specs.Request.{RequestParts}

-- how many bytes a name and one of its values have as a field line, with the colon, the space and CRLF
abbrev pub line_size : List ℕ × FieldValue → ℕ
line_size line = length line.0 + length line.1.bytes + 4

-- how many bytes the fields have, each value on its own line
abbrev pub lines_size : Entries FieldValue → ℕ
lines_size fields = sum_by line_size (pairs fields)

-- the most bytes that the head has: a byte of the target is written as three at most, the host stands in two fields, no
-- field of the request stands twice, and the rest are the names and the numbers of the proxy
abbrev pub ask_limit : RequestParts → ℕ
ask_limit r = 148 + length r.method + 3 * length r.target + 2 * length r.host_field + lines_size r.fields
