use Rattle.std.proofs.Common.{List, take}
use Rattle.conf_value.specs.declared.block.Block.{Block}
use Rattle.settings.specs.Indexed.{AreDue, IsIndexOf, truth_in, winner}
use Rattle.settings.proofs.counts.counting_among.Given as goal

abbrev pub invariant-loop-key : goal.invariant-loop-key
invariant-loop-key l = (blocks : List Block) → IsIndexOf blocks l.index → AreDue (winner blocks (truth_in l.truths)) (take l.key-index l.keys) l.counting
