use Rattle.conf_lex.proofs.Steps.{ended_steps}
use Rattle.conf_lex.proofs.machine.ended.Goals as goal

pub returns : goal.returns
returns c = ended_steps _ _ _ _ c.begin.result c.in_ok-push.ensures c.begin.ensures
