use Rattle.std.proofs.Common.{◌≡◌, ◌++◌, ◌+◌, drop}
use Rattle.settings.specs.Indexed as spec
use Rattle.settings.proofs.places.places_from.Given as goal

abbrev pub invariant-loop-number : goal.invariant-loop-number
invariant-loop-number l =
    (l.places ++ spec.places_from l.key l.number l.lists (drop l.number l.blocks) ≡ spec.places_from l.key 0 0 l.blocks)
    × (l.lists + spec.lists_of_all (drop l.number l.blocks) ≡ spec.lists_of_all l.blocks)
