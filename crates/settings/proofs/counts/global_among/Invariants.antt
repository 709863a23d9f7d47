use Rattle.std.proofs.Common.{take}
use Rattle.settings.specs.Indexed.{AreDue, global_alone, winner}
use Rattle.settings.proofs.counts.global_among.Given as goal

abbrev pub invariant-loop-key : goal.invariant-loop-key
invariant-loop-key l = AreDue (winner l.blocks global_alone) (take l.key-index l.keys) l.counting
