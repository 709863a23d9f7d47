-- What is kept for a pattern.
use Rattle.std.specs.Prelude.{◌≡◌, ℕ, ◌≤◌, List, map, length, Some}
use Rattle.regex.specs.Bytes.{matcher_pattern, regex_pattern, regex_source, group_count}
use Rattle.regex.specs.Locations.{location, location_count}
use Rattle.regex.specs.declared.locations.CaptureLocations.{CaptureLocations}
use Rattle.conditions.specs.Groups.{IsRead}
use Rattle.conditions.specs.Marked.{Marked}
use Rattle.conditions.specs.declared.kept.Kept.{Kept}

-- it searches for its pattern, and has room for each of the pattern's groups
pub record IsKept (k : Kept) : Type 0 where
  pub searches : matcher_pattern k.matcher ≡ regex_pattern k.pattern.now
  pub room : location_count k.places ≡ group_count k.pattern.now
  pub is_read : IsRead k.pattern.now

abbrev pub marked : Kept → Marked
marked k = (regex_source k.pattern.now, k.rule)

abbrev pub patterns_of : List Kept → List Marked
patterns_of kept = map marked kept

-- each place from group 1 on lies in the bytes
abbrev pub AreInside : CaptureLocations → List ℕ → Type 0
AreInside places hay = (n : ℕ) (p : ℕ × ℕ) → 1 ≤ n → location places n ≡ Some p → (p.0 ≤ p.1) × (p.1 ≤ length hay)
