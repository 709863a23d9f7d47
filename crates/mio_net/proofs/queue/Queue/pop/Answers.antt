use Rattle.std.proofs.Common.{◌∙◌, ap, arith}
use Rattle.mio_net.specs.Turns.{stands_in}
use Rattle.mio_net.proofs.Waiting.{below_flag, first_stands}
use Rattle.mio_net.proofs.queue.Queue.pop.Goals as goal

pub index_mut-requires : goal.index_mut-requires
index_mut-requires c = omega (arith, c.self.inside.waits.ok.0, below_flag c.self.inside.waits.items c.in-Some.number (c.self.invariant.same c.in-Some.number ∙ ap (stands_in c.in-Some.number) c.in-Some.ensures.items ∙ first_stands c.in-Some.number _))

pub returns-in-Some-clause-within : goal.returns-in-Some-clause-within
returns-in-Some-clause-within c = omega (arith, c.self.inside.waits.ok.0, c.self.invariant.flags, below_flag c.self.inside.waits.items c.in-Some.number (c.self.invariant.same c.in-Some.number ∙ ap (stands_in c.in-Some.number) c.in-Some.ensures.items ∙ first_stands c.in-Some.number _))
