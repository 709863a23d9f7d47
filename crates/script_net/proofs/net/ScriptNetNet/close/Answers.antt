use Rattle.std.proofs.Common.{refl, le_refl}
use Rattle.script_net.specs.Calls.{Closes}
use Rattle.script_net.proofs.Turning.{by_call}
use Rattle.script_net.proofs.net.ScriptNetNet.close.Goals as goal

pub returns-clause-later : goal.returns-clause-later
returns-clause-later c = rw (← c.self.view_is) (by_call (Closes c.args.link.0 c.args.ending) _ _ refl (rw (c.close.ensures.sides, c.close.ensures.trace) refl) refl (le_refl _))
