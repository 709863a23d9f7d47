use Rattle.std.proofs.Common.{arith}
use Rattle.server_core.proofs.Listed.{element_held, between_low, between_high, place_none, held_length, apart_above}
use Rattle.server_core.specs.Table.{helds}
use Rattle.server_core.proofs.table.place.Goals as goal

pub loop-low-preserved-then-here-link-2 : goal.loop-low-preserved-then-here-link-2
loop-low-preserved-then-here-link-2 c = between_low (helds c.args.clients.now) c.args.link.0 c.loop-low.low c.loop-low.high _ c.index-clients-middle.result.held c.requires c.loop-low.invariant (omega (arith, c.loop-low-test.true))
    (element_held c.args.clients.now _ c.index-clients-middle.result (omega (arith, c.loop-low-test.true, c.loop-low.invariant.within, held_length c.args.clients.now)) c.index-clients-middle.is) (omega (arith, c.link-here.ensures.link, c.if-here-link-2.true))

pub loop-low-preserved : goal.loop-low-preserved
loop-low-preserved c = between_high (helds c.args.clients.now) c.args.link.0 c.loop-low.low c.loop-low.high _ c.index-clients-middle.result.held c.requires c.loop-low.invariant (omega (arith, c.loop-low-test.true))
    (element_held c.args.clients.now _ c.index-clients-middle.result (omega (arith, c.loop-low-test.true, c.loop-low.invariant.within, held_length c.args.clients.now)) c.index-clients-middle.is) (apart_above c.link-here.result.0 c.args.link.0 c.index-clients-middle.result.held.link c.link-here.ensures.link c.if-here-link.false c.if-here-link-2.false)

pub returns : goal.returns
returns c = place_none (helds c.args.clients.now) c.args.link.0 c.loop-low.low c.loop-low.high c.loop-low.invariant c.loop-low-test.false
