use Rattle.std.proofs.Common.{◌≡◌, ◌≤◌, ◌-◌, None, vec_len}
use Rattle.std.specs.Prelude.{replicate}
use Rattle.mio_net.proofs.cells.cells.Given as goal

abbrev pub invariant-loop-cells : goal.invariant-loop-cells
invariant-loop-cells g l = record { none : l.cells.items ≡ replicate (vec_len l.cells) None; most : vec_len l.cells ≤ 4096 }

abbrev pub decreases-loop-cells : goal.decreases-loop-cells
decreases-loop-cells g l = 4096 - vec_len l.cells
