-- The fields of a head, in the map that keeps them (RFC 9110, sections 5.1 to 5.3).
use Rattle.std.specs.Prelude.{ℕ, fold, ◌≡◌, ◌≤◌, take, if◌then◌else◌, List, [], ◌∷◌, map, length, bytes_eq, All, Option, Some, None}
use Rattle.httparse.specs.Grammar.{RequestHead}
use Rattle.httparse.specs.Spans.{name_and_value}
use Rattle.http_header.specs.Token.{lowercase}
use Rattle.http_header.specs.FieldName.{IsFieldName}
use Rattle.http_header.specs.FieldValue.{FieldValue, plain_value, IsFieldValue}
use Rattle.http_header.specs.HeaderMap.{Entries, append_all, get, value_count}

-- a name and a value as they were sent, without the white space around the value
abbrev pub Pair : Type 0
Pair = List ℕ × List ℕ

-- the same as the map keeps it
abbrev pub kept : Pair → List ℕ × FieldValue
kept p = (lowercase p.0, plain_value p.1)

-- the map takes the name and the value
pub record IsTaken (p : Pair) : Type 0 where
  pub name : IsFieldName p.0
  pub value : IsFieldValue p.1

-- the map that has the pairs, put in one after another
abbrev pub map_of : List Pair → Entries FieldValue
map_of pairs = append_all [] (map kept pairs)

-- the pairs of a head of the grammar
abbrev pub pairs_of : RequestHead → List Pair
pairs_of h = map name_and_value h.fields

-- the map has the first n of the fields, each of which it takes
pub record IsFilled (pairs : List Pair) (n : ℕ) (m : Entries FieldValue) : Type 0 where
  pub taken : All IsTaken (take n pairs)
  pub is : m ≡ map_of (take n pairs)
  pub names : length m ≤ n
  pub values : value_count m ≤ n

-- the bytes of a value, or none
abbrev pub bytes_of : Option FieldValue → List ℕ
bytes_of None = []
bytes_of (Some v) = v.bytes

-- the first value under a name, or no bytes where the name is not there
abbrev pub first_value : Entries FieldValue → List ℕ → List ℕ
first_value fields name = bytes_of (get fields name)

-- the values of the pairs that have the name, in any case, in their order
abbrev pub values_of : List Pair → List ℕ → List FieldValue
values_of [] name = []
values_of (p ∷ pairs) name =
    if bytes_eq (lowercase p.0) name then plain_value p.1 ∷ values_of pairs name else values_of pairs name

-- the names so far, with one more at the end where it is new
abbrev pub names_with : List (List ℕ) → List ℕ → List (List ℕ)
names_with [] name = name ∷ []
names_with (k ∷ ks) name = if bytes_eq k name then k ∷ ks else k ∷ names_with ks name

-- the names of the pairs, in lower case and in order of first coming
abbrev pub names_of : List Pair → List (List ℕ)
names_of pairs = fold (λ names p. names_with names (lowercase p.0)) [] pairs
