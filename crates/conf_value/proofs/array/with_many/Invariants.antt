use Rattle.std.proofs.Common.{◌≡◌, drop, length}
use Rattle.conf_value.specs.Joining.{with_pairs}
use Rattle.conf_value.specs.Places.{ArePlaces}
use Rattle.conf_value.proofs.array.with_many.Given as goal

abbrev pub invariant-loop-at : goal.invariant-loop-at
invariant-loop-at l = record { joined : with_pairs l.pairs (drop l.at l.more) ≡ with_pairs l.fn.pairs l.fn.more; length : length l.more ≡ l.at-end; places : ArePlaces l.pairs l.places }
