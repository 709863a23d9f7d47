use Rattle.std.proofs.Common.{◌≡◌, ◌-◌, ◌∷◌, map}
use Rattle.std.specs.List.{range_with_len}
use Rattle.regex.specs.Locations.{location}
use Rattle.conditions.specs.Groups.{text_of}
use Rattle.conditions.proofs.kept.groups_at.Given as goal

abbrev pub invariant-loop-n : goal.invariant-loop-n
invariant-loop-n l = l.groups ≡ l.whole ∷ map (λ n. text_of l.hay (location l.places n)) (range_with_len 1 (l.n - 1))
