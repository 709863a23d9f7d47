use Rattle.std.proofs.Common.{arith, ap, drop, ◌∙◌, length-drop}
use Rattle.script_net.proofs.Turning.{skip_here, skip_later}
use Rattle.script_net.proofs.steps.due_from.Goals as goal

pub returns-then-due-at-clause-skipped : goal.returns-then-due-at-clause-skipped
returns-then-due-at-clause-skipped c =
    skip_here c.args.played (drop c.args.at c.args.steps.now) c.args.links.now.sides (c.due_at-due.ensures.skipped ∙ ap (λ k. drop k c.args.steps.now) c.if-due-at.true)

pub returns-else-due-at-clause-skipped : goal.returns-else-due-at-clause-skipped
returns-else-due-at-clause-skipped c =
    skip_later c.args.played (drop c.args.at c.args.steps.now) (drop c.due_at-due.result c.args.steps.now) c.args.links.now.sides c.due_at-due.ensures.skipped
    (omega (arith, length-drop c.args.at c.args.steps.now, length-drop c.due_at-due.result c.args.steps.now, c.due_at-due.ensures.after, c.due_at-due.ensures.within))
