use Rattle.std.proofs.Common.{◌≡◌, ◌+◌, drop}
use Rattle.settings.specs.Indexed as spec
use Rattle.settings.proofs.lists.lists_of.Given as goal

abbrev pub invariant-loop-setting : goal.invariant-loop-setting
invariant-loop-setting l = l.lists + spec.lists_of (drop l.setting-index l.settings) ≡ spec.lists_of l.settings
