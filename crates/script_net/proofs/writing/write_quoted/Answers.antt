use Rattle.std.proofs.Common.{◌≡◌, ◌++◌, ◌∙◌, sym, arith, take-append-drop}
use Rattle.std.proofs.lemmas.Result.{err_from_is_err_and}
use Rattle.lt_bytes.specs.Quoting.{quoted}
use Rattle.script_net.proofs.Pieces.{quoted_broke, quoted_went}
use Rattle.script_net.proofs.writing.write_quoted.Goals as goal

pub returns-in_err-write_all-clause-writes : goal.returns-in_err-write_all-clause-writes
returns-in_err-write_all-clause-writes g c = λ told.
    let p = err_from_is_err_and c.from_residual.result c.from_residual.ensures.1 in
    let so_far = c.loop-rest.invariant.written told in
    let cut : c.loop-rest.rest.now ≡ c.split_at.result.0.now ++ c.split_at.result.1.now = rw (c.split_at.ensures.front, c.split_at.ensures.back) (sym (take-append-drop c.min.result c.loop-rest.rest.now)) in
    let text : c.split_at-in-loop-rest.result.0.now ≡ quoted c.split_at.result.0.now = c.split_at-in-loop-rest.ensures.front ∙ c.spell-n.ensures.text in
    rw p.1 (quoted_broke c.args.bytes.now so_far.0 c.loop-rest.rest.now c.split_at.result.0.now c.split_at.result.1.now _ _ _ so_far.1 cut so_far.2 (rw text at (c.in_err-write_all.ensures.writes told)))

pub loop-rest-preserved : goal.loop-rest-preserved
loop-rest-preserved g c =
    let cut : c.loop-rest.rest.now ≡ c.split_at.result.0.now ++ c.split_at.result.1.now = rw (c.split_at.ensures.front, c.split_at.ensures.back) (sym (take-append-drop c.min.result c.loop-rest.rest.now)) in
    let text : c.split_at-in-loop-rest.result.0.now ≡ quoted c.split_at.result.0.now = c.split_at-in-loop-rest.ensures.front ∙ c.spell-n.ensures.text in
    record {
      written = λ told.
          let so_far = c.loop-rest.invariant.written told in
          quoted_went c.args.bytes.now so_far.0 c.loop-rest.rest.now c.split_at.result.0.now c.split_at.result.1.now _ _ _ so_far.1 cut so_far.2 (rw text at (c.in_ok-write_all.ensures.writes told));
      faults = omega (arith, c.loop-rest.invariant.faults, c.write_all.ensures.faults);
      later = g.met.S.Sink.later_later _ _ _ c.loop-rest.invariant.later c.write_all.ensures.later;
    }
