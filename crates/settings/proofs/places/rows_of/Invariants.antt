use Rattle.std.proofs.Common.{◌≡◌, ◌++◌, map, drop}
use Rattle.settings.specs.Indexed as spec
use Rattle.settings.proofs.places.rows_of.Given as goal

abbrev pub invariant-loop-key : goal.invariant-loop-key
invariant-loop-key l = l.rows ++ map (spec.places_of l.blocks) (drop l.key-index l.keys) ≡ map (spec.places_of l.blocks) l.keys
