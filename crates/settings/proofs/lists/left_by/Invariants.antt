use Rattle.std.proofs.Common.{◌≡◌, drop}
use Rattle.settings.specs.Indexed as spec
use Rattle.settings.proofs.lists.left_by.Given as goal

abbrev pub invariant-loop-setting : goal.invariant-loop-setting
invariant-loop-setting l = spec.less l.left (spec.lists_of (drop l.setting-index l.settings)) ≡ spec.less l.most (spec.lists_of l.settings)
