use Rattle.std.proofs.Common.{arith}
use Rattle.script_net.proofs.Noting.{unnamed}
use Rattle.script_net.proofs.links.Links.len.Goals as goal

pub returns-clause-fresh : goal.returns-clause-fresh
returns-clause-fresh c = rw (← c.self.view_is) (unnamed c.len.result _ (omega (arith, c.self.invariant.named)))
