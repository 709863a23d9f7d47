use Rattle.std.proofs.Common.{arith}
use Rattle.mio_net.proofs.Chances.{read_some}
use Rattle.mio_net.proofs.families.Families.before.Goals as goal

pub returns-in-Some-clause-within : goal.returns-in-Some-clause-within
returns-in-Some-clause-within c = c.self.invariant.before_within c.args.place c.in-Some.other (read_some c.self.inside.before.items c.args.place c.in-Some.other c.index.result.now (omega (arith, c.self.inside.before.ok.0, c.self.invariant.before_all, c.requires)) c.index.ensures c.in-Some.is)
