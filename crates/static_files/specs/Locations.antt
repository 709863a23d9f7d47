-- The location of a directory (RFC 9110, section 10.2.2; RFC 3986, sections 2.1 and 3.3), and excluded extensions
-- (lighttpd's `static-file.exclude-extensions`).
use Rattle.std.specs.Prelude.{ℕ, ◌-◌, Bool, false, ◌||◌, ◌==◌, List, [], ◌∷◌, ◌++◌, length, drop, flat_map, Option, Some, None, if◌then◌else◌, bytes_eq, codes}
use Rattle.std.specs.Char.{is_ascii_alphanumeric}
use Rattle.std.specs.List.{list_any}
use Rattle.percent_encoding.specs.Percent.{percent_encode_byte}

-- what a path may hold as it is: `pchar` of RFC 3986, and the slash
abbrev pub is_kept : ℕ → Bool
is_kept b = is_ascii_alphanumeric b || list_any (λ kept. b == kept) (codes "-._~/!$&'()*+,;=:@")

-- any other byte is a percent sign and two hexadecimal digits
abbrev pub escaped_byte : ℕ → List ℕ
escaped_byte b = if is_kept b then b ∷ [] else percent_encode_byte b

abbrev pub escaped : List ℕ → List ℕ
escaped path = flat_map escaped_byte path

-- a query behind its question mark, and nothing for an empty one
abbrev pub query_part : List ℕ → List ℕ
query_part [] = []
query_part (b ∷ query) = codes "?" ++ b ∷ query

-- the path of a directory with its final slash, and the query
abbrev pub location : List ℕ → List ℕ → List ℕ
location path query = escaped path ++ codes "/" ++ query_part query

-- the text ends in these bytes
abbrev pub ends_in : List ℕ → List ℕ → Bool
ends_in text end = bytes_eq (drop (length text - length end) text) end

abbrev pub ends_in_text : List ℕ → Option (List ℕ) → Bool
ends_in_text path None = false
ends_in_text path (Some end) = ends_in path end

-- the path ends in one of the extensions
abbrev pub is_excluded : List (List ℕ) → List ℕ → Bool
is_excluded extensions path = list_any (ends_in path) extensions
