use Rattle.std.proofs.Common.{◌≡◌, drop}
use Rattle.script_net.specs.Steps.{skip}
use Rattle.script_net.proofs.steps.due_at.Given as goal

abbrev pub invariant-loop-i : goal.invariant-loop-i
invariant-loop-i l = skip l.links.sides (drop l.at l.steps) ≡ skip l.links.sides (drop l.i l.steps)
