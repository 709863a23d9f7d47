use Rattle.std.proofs.Common.{◌≡◌, drop}
use Rattle.settings.specs.Indexed as spec
use Rattle.settings.proofs.lists.left_by_all.Given as goal

abbrev pub invariant-loop-block : goal.invariant-loop-block
invariant-loop-block l = spec.less l.left (spec.lists_of_all (drop l.block-index l.blocks)) ≡ spec.less l.most (spec.lists_of_all l.blocks)
