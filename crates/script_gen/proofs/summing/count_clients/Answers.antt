use Rattle.std.proofs.Common.{◌≡◌, ap, ◌∙◌, arith}
use Rattle.std.specs.Int.{from_bool}
use Rattle.lt_world.specs.Trace.{own}
use Rattle.script_net.specs.Arrivals.{has_arrived}
use Rattle.script_gen.proofs.Ranges.{count_more, as_counted, at_most_one}
use Rattle.script_gen.proofs.summing.count_clients.Goals as goal

pub loop-link-preserved : goal.loop-link-preserved
loop-link-preserved c =
    let trace = c.args.net.now.game.trace in
    let came = has_arrived (own c.loop-link.link trace) in
    let one : c.from-clients.result ≡ from_bool came = c.from-clients.ensures ∙ ap from_bool c.has_arrived.ensures.arrived in
    record {
      clients = omega (arith, c.loop-link.invariant.clients, count_more has_arrived trace c.loop-link.link, one, as_counted came);
      few = omega (arith, c.loop-link.invariant.few, one, at_most_one came);
    }
