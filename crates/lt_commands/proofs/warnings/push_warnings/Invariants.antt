use Rattle.std.proofs.Common.{◌≡◌, ◌++◌, take}
use Rattle.lt_commands.specs.Warnings.{lines_of}
use Rattle.lt_commands.proofs.warnings.push_warnings.Given as goal

abbrev pub invariant-loop-warning : goal.invariant-loop-warning
invariant-loop-warning l = l.text ≡ l.initial.text ++ lines_of (take l.warning-index l.warnings)
