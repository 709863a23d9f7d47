use Rattle.std.proofs.Common.{◌++◌, ◌≡◌}
use Rattle.conf_parse.specs.Print as spec
use Rattle.conf_parse.proofs.statements.margin.Given as goal

abbrev pub invariant-loop : goal.invariant-loop
invariant-loop l = l.out ++ spec.margin l.counter ≡ l.initial.out ++ spec.margin l.room
