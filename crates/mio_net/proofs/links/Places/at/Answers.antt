use Rattle.std.proofs.Common.{ap, arith}
use Rattle.mio_net.specs.Links.{Links}
use Rattle.mio_net.proofs.Chances.{if_some_below, read_some}
use Rattle.mio_net.proofs.links.Places.at.Goals as goal

pub returns-clause-below : goal.returns-clause-below
returns-clause-below c =
    if_some_below c.index.result.now c.args.self.now.next (λ number is. omega (arith, ap (λ (links : Links). links.next) c.self.view_is, c.self.invariant.below c.args.place number (read_some c.self.inside.places.items c.args.place number c.index.result.now (omega (arith, c.self.inside.places.ok.0, c.self.invariant.all, c.requires)) c.index.ensures is)))
