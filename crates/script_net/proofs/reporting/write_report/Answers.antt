use Rattle.std.proofs.Common.{arith}
use Rattle.std.proofs.lemmas.Result.{err_from_is_err_and}
use Rattle.lt_world.specs.Trace.{link_bound}
use Rattle.script_net.proofs.Pieces.{lines_broke}
use Rattle.script_net.proofs.reporting.write_report.Goals as goal

pub returns-in_err-write_line-clause-writes : goal.returns-in_err-write_line-clause-writes
returns-in_err-write_line-clause-writes g c = λ told.
    let p = err_from_is_err_and c.from_residual.result c.from_residual.ensures.1 in
    rw p.1 (lines_broke c.loop-link.link (link_bound c.args.links.now.trace) c.args.links.now.trace _ _ _ (omega (arith, c.loop-link-test.true, c.len-link-end.ensures.bound)) (c.loop-link.invariant.written told)
    (rw (c.ending.ensures, c.taken.ensures) at (c.in_err-write_line.ensures.writes told)))
