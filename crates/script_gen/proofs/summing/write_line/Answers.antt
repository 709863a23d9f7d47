use Rattle.std.proofs.Common.{◌++◌, codes, ◌∙◌}
use Rattle.std.specs.Fmt.{decimal}
use Rattle.std.proofs.lemmas.Result.{err_from_is_err_and}
use Rattle.script_net.proofs.Pieces.{got_more, got_then, writes_then}
use Rattle.script_gen.proofs.summing.write_line.Goals as goal

pub returns-in_err-write_all-2-clause-writes : goal.returns-in_err-write_all-2-clause-writes
returns-in_err-write_all-2-clause-writes g c = λ told.
    let p = err_from_is_err_and c.from_residual-in_err-write_all-2.result c.from_residual-in_err-write_all-2.ensures.1 in
    let digits = c.bytes.ensures ∙ c.decimal.ensures in
    rw p.1 (got_then _ _ _ c.args.name.now (decimal c.args.count ++ codes "\n") (c.in_ok-write_all.ensures.writes told)
    (got_more _ _ (decimal c.args.count) (codes "\n") (rw digits at (c.in_err-write_all-2.ensures.writes told))))

pub returns-clause-writes : goal.returns-clause-writes
returns-clause-writes g c = λ told.
    let digits = c.bytes.ensures ∙ c.decimal.ensures in
    writes_then c.write_all-3.result _ _ _ c.args.name.now (decimal c.args.count ++ codes "\n") (c.in_ok-write_all.ensures.writes told)
    (writes_then c.write_all-3.result _ _ _ (decimal c.args.count) (codes "\n") (rw digits at (c.in_ok-write_all-2.ensures.writes told)) (c.write_all-3.ensures.writes told))
