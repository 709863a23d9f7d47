use Rattle.std.proofs.Common.{take}
use Rattle.conf_value.specs.Places.{ArePlaces}
use Rattle.conf_value.proofs.places.Places.of.Given as goal

abbrev pub invariant-loop-at : goal.invariant-loop-at
invariant-loop-at l = ArePlaces (take l.at l.pairs) l.places
