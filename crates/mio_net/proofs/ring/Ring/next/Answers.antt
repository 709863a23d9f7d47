use Rattle.std.proofs.Common.{sym, ◌∙◌, ap}
use Rattle.mio_net.specs.Turns.{from_set}
use Rattle.mio_net.proofs.ring.Ring.next.Goals as goal

pub returns-clause-turn : goal.returns-clause-turn
returns-clause-turn c = (
  sym c.loop-number.invariant.turns ∙ ap (from_set c.args.self.now.marks) c.in_default.ensures.first.0,
  λ i. record { marks = c.loop-number.invariant.marks i; waiting = c.in_default.ensures.first.1 i },
)
