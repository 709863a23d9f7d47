-- For proofs alone: where the keys of an array stand.
use Rattle.std.specs.Prelude.{◌≡◌, ℕ, Bool, List, Option, Some, None, nat_eq, position, cond, if◌then◌else◌}
use Rattle.std.specs.Cmp.Lexicographic.{pointwise}
use Rattle.std.specs.HashMap.{get_by}
use Rattle.conf_value.specs.declared.value.Pair.{Pair}
use Rattle.conf_value.specs.declared.places.Places.{Places}
use Rattle.conf_value.specs.Joining.{has_key}

-- the place that is kept for a key
abbrev pub place_in : Places → List ℕ → Option ℕ
place_in places key = get_by (λ k. pointwise nat_eq key k.items) places.map

-- each key has the place of the first pair with it
abbrev pub ArePlaces : List Pair → Places → Type 0
ArePlaces pairs places = (q : List ℕ) → place_in places q ≡ position (has_key q) pairs

-- bytes have this place now, and every other key what it had
abbrev pub HasNow : Places → List ℕ → ℕ → Places → Type 0
HasNow old key at new = (q : List ℕ) → place_in new q ≡ cond (pointwise nat_eq key q) (Some at) (place_in old q)

abbrev pub or_place : Option ℕ → Option ℕ → Option ℕ
or_place (Some place) other = Some place
or_place None other = other

abbrev pub place_if : Bool → ℕ → Option ℕ
place_if here at = if here then Some at else None

-- a key without a place has this one now, and every other key what it had
abbrev pub IsNotedKey : Places → List ℕ → ℕ → Places → Type 0
IsNotedKey old key at new = (q : List ℕ) → place_in new q ≡ or_place (place_in old q) (place_if (pointwise nat_eq key q) at)

abbrev pub IsNoted : Places → Pair → ℕ → Places → Type 0
IsNoted old pair at new = (q : List ℕ) → place_in new q ≡ or_place (place_in old q) (place_if (has_key q pair) at)
