use Rattle.std.proofs.Common.{◌≡◌, ◌+◌, ◌*◌, ◌-◌, ◌≤◌}
use Rattle.rewrite.proofs.Looping.{Reached}
use Rattle.rewrite.proofs.rewriting.rewrite.Given as goal

abbrev pub invariant-loop-passes : goal.invariant-loop-passes
invariant-loop-passes g l = record {
  reached : Reached (g.C.Choices.lists l.choices) l.fn.target l.passes l.target;
  right : g.C.Choices.right l.choices l.target l.conds;
  steps : l.steps + g.C.Choices.asked l.fn.conds ≤ l.fn.steps + l.passes * g.C.Choices.most l.choices + g.C.Choices.asked l.conds;
  matchers : l.matchers ≡ l.fn.matchers;
}

abbrev pub decreases-loop-passes : goal.decreases-loop-passes
decreases-loop-passes g l = 100 - l.passes
