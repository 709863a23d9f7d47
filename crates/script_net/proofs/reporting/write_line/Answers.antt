use Rattle.std.proofs.Common.{◌++◌, length, codes, ◌∙◌}
use Rattle.std.proofs.lemmas.Result.{err_from_is_err_and}
use Rattle.lt_bytes.specs.Quoting.{quoted}
use Rattle.script_net.specs.Reports.{line_front}
use Rattle.script_net.proofs.Pieces.{got_more, got_then, writes_then}
use Rattle.script_net.proofs.reporting.write_line.Goals as goal

pub returns-in_err-write_quoted-clause-writes : goal.returns-in_err-write_quoted-clause-writes
returns-in_err-write_quoted-clause-writes g c = λ told.
    let p = err_from_is_err_and c.from_residual-in_err-write_quoted.result c.from_residual-in_err-write_quoted.ensures.1 in
    let front = c.split_at.ensures.front ∙ c.put_front-n.ensures.text in
    rw p.1 (got_then _ _ _ (line_front c.args.link c.args.ending (length c.args.taken.now)) (quoted c.args.taken.now ++ codes "\"\n") (rw front at (c.in_ok-write_all.ensures.writes told))
    (got_more _ _ (quoted c.args.taken.now) (codes "\"\n") (c.in_err-write_quoted.ensures.writes told)))

pub returns-clause-writes : goal.returns-clause-writes
returns-clause-writes g c = λ told.
    let front = c.split_at.ensures.front ∙ c.put_front-n.ensures.text in
    writes_then c.write_all-2.result _ _ _ (line_front c.args.link c.args.ending (length c.args.taken.now)) (quoted c.args.taken.now ++ codes "\"\n") (rw front at (c.in_ok-write_all.ensures.writes told))
    (writes_then c.write_all-2.result _ _ _ (quoted c.args.taken.now) (codes "\"\n") (c.in_ok-write_quoted.ensures.writes told) (c.write_all-2.ensures.writes told))
