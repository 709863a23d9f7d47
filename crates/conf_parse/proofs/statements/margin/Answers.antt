use Rattle.conf_parse.proofs.Printed.{margin_step, margin_end}
use Rattle.conf_parse.proofs.statements.margin.Goals as goal

pub loop-preserved : goal.loop-preserved
loop-preserved c = margin_step _ _ _ c.loop.counter c.loop-test.true c.in_ok-push_all.ensures.ok c.loop.invariant

pub returns : goal.returns
returns c = margin_end _ _ c.loop.counter c.loop-test.false c.loop.invariant
