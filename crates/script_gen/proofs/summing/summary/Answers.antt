use Rattle.std.proofs.Common.{ℕ, List, ◌++◌, ap, ◌∙◌, codes}
use Rattle.std.proofs.lemmas.Result.{err_from_is_err_and}
use Rattle.lt_world.specs.Trace.{Entry, link_bound}
use Rattle.script_net.proofs.Pieces.{got_more, got_then, writes_then}
use Rattle.script_gen.specs.Totals.{arrived_below, clean_below, bytes_below, counted, line_of}
use Rattle.script_gen.proofs.summing.summary.Goals as goal

abbrev connections : List Entry → List ℕ
connections trace = line_of (codes "connections ") (arrived_below (link_bound trace) trace)

abbrev clean : List Entry → List ℕ
clean trace = line_of (codes "clean ") (clean_below (link_bound trace) trace)

abbrev bytes : List Entry → List ℕ
bytes trace = line_of (codes "bytes ") (counted (bytes_below (link_bound trace) trace))

pub returns-in_err-write_line-clause-writes : goal.returns-in_err-write_line-clause-writes
returns-in_err-write_line-clause-writes g c = λ told.
    let trace = c.args.net.now.game.trace in
    let p = err_from_is_err_and c.from_residual.result c.from_residual.ensures.1 in
    let came = c.count_clients-clients.ensures ∙ ap (λ n. arrived_below n trace) c.link_count-links.ensures.bound in
    rw p.1 (got_more _ _ (connections trace) (clean trace ++ bytes trace) (rw came at (c.in_err-write_line.ensures.writes told)))

pub returns-in_err-write_line-2-clause-writes : goal.returns-in_err-write_line-2-clause-writes
returns-in_err-write_line-2-clause-writes g c = λ told.
    let trace = c.args.net.now.game.trace in
    let p = err_from_is_err_and c.from_residual-in_err-write_line-2.result c.from_residual-in_err-write_line-2.ensures.1 in
    let bound = c.link_count-links.ensures.bound in
    let came = c.count_clients-clients.ensures ∙ ap (λ n. arrived_below n trace) bound in
    let many = c.count_clean-clean.ensures ∙ ap (λ n. clean_below n trace) bound in
    rw p.1 (got_then _ _ _ (connections trace) (clean trace ++ bytes trace) (rw came at (c.in_ok-write_line.ensures.writes told))
    (got_more _ _ (clean trace) (bytes trace) (rw many at (c.in_err-write_line-2.ensures.writes told))))

pub returns-clause-writes : goal.returns-clause-writes
returns-clause-writes g c = λ told.
    let trace = c.args.net.now.game.trace in
    let bound = c.link_count-links.ensures.bound in
    let came = c.count_clients-clients.ensures ∙ ap (λ n. arrived_below n trace) bound in
    let many = c.count_clean-clean.ensures ∙ ap (λ n. clean_below n trace) bound in
    let sum = c.sum_bytes-bytes.ensures ∙ ap (λ n. counted (bytes_below n trace)) bound in
    writes_then c.write_line-3.result _ _ _ (connections trace) (clean trace ++ bytes trace) (rw came at (c.in_ok-write_line.ensures.writes told))
    (writes_then c.write_line-3.result _ _ _ (clean trace) (bytes trace) (rw many at (c.in_ok-write_line-2.ensures.writes told)) (rw sum at (c.write_line-3.ensures.writes told)))
