-- Several lists of media types, each under its number.
use Rattle.std.specs.Prelude.{ℕ, List, [], map, Option, unwrap_or, slice_get}
use Rattle.conf_value.specs.declared.value.Pair.{Pair}

-- the list with this number, and an empty one where there is none
abbrev pub list_at : List (List Pair) → ℕ → List Pair
list_at lists number = unwrap_or (slice_get lists number) []

-- the lists that are kept; for an empty one nothing is
abbrev pub lists_in : List (Option (List Pair)) → List (List Pair)
lists_in tables = map (λ table. unwrap_or table []) tables
