-- What a client gets of the fields of a gateway's answer (RFC 3875, section 6.3; RFC 9110, section 7.6.1).
use Rattle.std.specs.Prelude.{ℕ, ◌^◌, ◌-◌, Bool, List, [], ◌∷◌, bytes_eq, codes, flat_map, Option, Some, None, if◌then◌else◌}
use Rattle.std.specs.List.{list_any}
use Rattle.lt_bytes.specs.Numbers.{number_of}
use Rattle.lt_bytes.specs.declared.numbers.Number.{Number}
use Rattle.lt_bytes.specs.declared.numbers.Number.TheVariants.{Value, NotANumber, Overflow}
use Rattle.http_header.specs.FieldValue.{FieldValue}
use Rattle.http_header.specs.HeaderMap.{Entries, get_all, pairs}
use Rattle.http_reply.specs.FieldLines.{FieldLines}

-- the status stands in the start line, the server frames and dates its reply itself, and the others speak of one
-- connection alone
abbrev pub withheld : List (List ℕ)
withheld =
    codes "status"
    ∷ codes "connection"
    ∷ codes "keep-alive"
    ∷ codes "transfer-encoding"
    ∷ codes "content-length"
    ∷ codes "upgrade"
    ∷ codes "trailer"
    ∷ codes "date"
    ∷ []

-- a name in lower case is one of them
abbrev pub is_withheld : List ℕ → Bool
is_withheld name = list_any (bytes_eq name) withheld

abbrev pub passed_line : List ℕ × List ℕ → FieldLines
passed_line line = if is_withheld line.0 then [] else line ∷ []

-- each value of the other fields on its own line, by name in order of first coming
abbrev pub passed_on : Entries FieldValue → FieldLines
passed_on fields = flat_map (λ p. passed_line (p.0, p.1.bytes)) (pairs fields)

-- a number past 64 bits counts as the greatest that they hold
abbrev pub length_of : Number → Option ℕ
length_of (Value n) = Some n
length_of Overflow = Some (2 ^ 64 - 1)
length_of NotANumber = None

abbrev pub stated_by : List FieldValue → Option ℕ
stated_by [] = None
stated_by (v ∷ []) = length_of (number_of 10 v.bytes)
stated_by (v ∷ w ∷ more) = None

-- the number that Content-Length states, where exactly one such field of digits was given
abbrev pub stated_of : Entries FieldValue → Option ℕ
stated_of fields = stated_by (get_all fields (codes "content-length"))
