use Rattle.std.proofs.Common.{◌≡◌, ap, ◌∙◌, arith}
use Rattle.std.specs.Int.{from_bool}
use Rattle.lt_world.specs.Trace.{own}
use Rattle.script_gen.specs.Totals.{ends_clean}
use Rattle.script_gen.proofs.Ranges.{count_more, as_counted, at_most_one}
use Rattle.script_gen.proofs.summing.count_clean.Goals as goal

pub loop-link-preserved : goal.loop-link-preserved
loop-link-preserved c =
    let trace = c.args.net.now.game.trace in
    let clean = ends_clean (own c.loop-link.link trace) in
    let one : c.from-clean.result ≡ from_bool clean = c.from-clean.ensures ∙ ap from_bool c.ends_clean.ensures in
    record {
      clean = omega (arith, c.loop-link.invariant.clean, count_more ends_clean trace c.loop-link.link, one, as_counted clean);
      few = omega (arith, c.loop-link.invariant.few, one, at_most_one clean);
    }
