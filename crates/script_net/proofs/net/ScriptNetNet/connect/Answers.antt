use Rattle.std.proofs.Common.{refl, arith}
use Rattle.script_net.specs.Calls.{Connects}
use Rattle.script_net.proofs.Turning.{by_call}
use Rattle.script_net.proofs.net.ScriptNetNet.connect.Goals as goal

pub returns-clause-later : goal.returns-clause-later
returns-clause-later c = rw (← c.self.view_is) (by_call (Connects c.args.owner c.args.to) _ _ refl (rw (c.fail_connect.ensures.sides, c.fail_connect.ensures.trace) refl) refl (omega arith))
