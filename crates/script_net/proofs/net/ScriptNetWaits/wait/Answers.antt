use Rattle.std.proofs.Common.{refl}
use Rattle.script_net.proofs.Waits.{by_wait}
use Rattle.script_net.proofs.net.ScriptNetWaits.wait.Goals as goal

pub returns-clause-since : goal.returns-clause-since
returns-clause-since c = rw (← c.self.view_is) (by_wait c.wait-answer.result _ _ (rw (c.wait-answer.ensures.becomes, c.count-self-inside.ensures.value) refl) c.wait-answer.ensures.planned c.count-self-inside.ensures.more c.wait-answer.ensures.more)
