use Rattle.std.proofs.Common.{◌≡◌, ◌++◌}
use Rattle.conf_eval.specs.Sound.{AreAllGood}
use Rattle.conf_eval.proofs.blocks.all_closed.Given as goal

-- the blocks so far, and those that are left
abbrev pub invariant-loop-one : goal.invariant-loop-one
invariant-loop-one l = record { blocks : l.blocks ≡ l.yielded; good : AreAllGood l.blocks }
