-- Media types by the ends of paths (lighttpd's `mimetype.assign`; RFC 2046, section 4.5.1 for the type of any other).
use Rattle.std.specs.Prelude.{ℕ, Bool, true, ◌&&◌, nat_le, List, [], ◌∷◌, length, Option, Some, None, if◌then◌else◌, codes}
use Rattle.conf_value.specs.declared.value.Pair.{Pair, out-Pair}
use Rattle.static_files.specs.declared.media_types.Entry.{Entry}
use Rattle.static_files.specs.Locations.{ends_in}
use Rattle.static_files.specs.Texts.{text_in}

-- what a path ends in, and the type of such files
pub record MediaType : Type 0 where
  pub key : List ℕ
  pub value : List ℕ

abbrev pub media_type_by : Option (List ℕ) → Option (List ℕ) → Option MediaType
media_type_by (Some key) (Some value) = Some (record { key = key; value = value })
media_type_by key value = None

-- a pair with a key and a text as its value; any other counts for nothing
abbrev pub media_type_of : Pair → Option MediaType
media_type_of pair = media_type_by (out-Pair pair).key (text_in pair)

-- no type is longer than this key
abbrev pub is_longest : List ℕ → Option MediaType → Bool
is_longest key None = true
is_longest key (Some other) = nat_le (length other.key) (length key)

-- a type that may be, before the longest of those behind it
abbrev pub better : List ℕ → Option MediaType → Option MediaType → Option MediaType
better path None others = others
better path (Some first) others = if ends_in path first.key && is_longest first.key others then Some first else others

-- the type with the longest key in which the path ends; the first of them where keys are equal
abbrev pub longest : List ℕ → List Pair → Option MediaType
longest path [] = None
longest path (pair ∷ pairs) = better path (media_type_of pair) (longest path pairs)

abbrev pub value_of : Option MediaType → List ℕ
value_of None = codes "application/octet-stream"
value_of (Some found) = found.value

-- the media type of a path
abbrev pub mime : List Pair → List ℕ → List ℕ
mime types path = value_of (longest path types)

-- what is kept of a pair, as a type
abbrev pub type_of : Entry → MediaType
type_of entry = record { key = entry.key.now; value = entry.value.now }
