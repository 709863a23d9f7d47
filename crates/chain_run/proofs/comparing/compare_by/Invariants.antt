use Rattle.std.proofs.Common.{◌≡◌}
use Rattle.chain_run.proofs.comparing.compare_by.Given as goal

abbrev pub invariant-loop-one : goal.invariant-loop-one
invariant-loop-one g l = l.matchers ≡ l.initial.matchers
