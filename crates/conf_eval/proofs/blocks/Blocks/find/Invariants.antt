use Rattle.std.proofs.Common.{◌≡◌, drop}
use Rattle.conf_eval.specs.Settings.{nearest}
use Rattle.conf_eval.proofs.blocks.Blocks.find.Given as goal

-- what is found in all is found in those that are left
abbrev pub invariant-loop-block : goal.invariant-loop-block
invariant-loop-block l = nearest l.self.blocks (drop l.block-index l.blocks) l.key ≡ nearest l.self.blocks l.blocks l.key
