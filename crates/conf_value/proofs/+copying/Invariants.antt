use Rattle.std.proofs.Common.{◌≡◌, take}
use Rattle.conf_value.proofs.+copying.Given as goal

abbrev pub invariant-copying::copy_pairs-loop-pair : goal.invariant-copying::copy_pairs-loop-pair
invariant-copying::copy_pairs-loop-pair l = l.copy ≡ take l.pair-index l.pairs
