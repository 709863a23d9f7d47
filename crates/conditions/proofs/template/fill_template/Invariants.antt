use Rattle.std.proofs.Common.{◌≡◌, ◌++◌, length}
use Rattle.conditions.specs.Template.{filled}
use Rattle.conditions.proofs.template.fill_template.Given as goal

abbrev pub invariant-loop-rest : goal.invariant-loop-rest
invariant-loop-rest l = filled l.own l.outer l.template ≡ l.text ++ filled l.own l.outer l.rest

abbrev pub decreases-loop-rest : goal.decreases-loop-rest
decreases-loop-rest l = length l.rest
