use Rattle.std.proofs.Common.{refl, length}
use Rattle.script_net.specs.Calls.{Reads}
use Rattle.script_net.proofs.Turning.{by_call}
use Rattle.script_net.proofs.net.ScriptNetNet.read.Goals as goal

pub returns-clause-later : goal.returns-clause-later
returns-clause-later c = rw (← c.self.view_is) (by_call (Reads c.args.link.0 (length c.args.buf.now)) _ _ refl (rw (c.read-got.ensures.tells.sides, c.read-got.ensures.tells.trace, c.read-got.ensures.act) refl) refl (c.count_read-self-inside.ensures.more))
