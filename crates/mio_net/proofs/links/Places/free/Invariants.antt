use Rattle.mio_net.specs.Links.{AreTaken}
use Rattle.mio_net.proofs.links.Places.free.Given as goal

abbrev pub invariant-loop-number : goal.invariant-loop-number
invariant-loop-number l = AreTaken l.self.next l.number l.self
