use Rattle.std.proofs.Common.{◌<◌}
use Rattle.mio_net.proofs.system.offer_family.Given as goal

abbrev pub invariant-loop : goal.invariant-loop
invariant-loop l = l.at < 4096
