use Rattle.std.proofs.Common.{refl}
use Rattle.script_net.proofs.Waits.{by_listen}
use Rattle.script_net.proofs.net.ScriptNetWaits.listen.Goals as goal

pub returns-clause-since : goal.returns-clause-since
returns-clause-since c = rw (← c.self.view_is) (by_listen c.listen-answer.result _ _ (rw (c.listen-answer.ensures.becomes, c.count-self-inside.ensures.value) refl) c.listen-answer.ensures.planned c.count-self-inside.ensures.more c.listen-answer.ensures.more)
