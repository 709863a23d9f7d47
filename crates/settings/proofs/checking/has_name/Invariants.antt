use Rattle.std.proofs.Common.{◌≡◌, drop}
use Rattle.settings.specs.Checking as spec
use Rattle.settings.proofs.checking.has_name.Given as goal

abbrev pub invariant-loop-at : goal.invariant-loop-at
invariant-loop-at l = spec.has_name (drop l.at l.text) ≡ spec.has_name l.text
