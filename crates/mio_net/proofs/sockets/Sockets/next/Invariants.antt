use Rattle.std.proofs.Common.{◌≡◌}
use Rattle.mio_net.proofs.sockets.Sockets.next.Given as goal

abbrev pub invariant-loop : goal.invariant-loop
invariant-loop g l = l.self.places ≡ l.fn.self.places
