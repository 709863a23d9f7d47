use Rattle.std.proofs.Common.{ap, sym, ◌∙◌, arith, refl}
use Rattle.fcgi_gateway.proofs.AskedLemmas.{stream_step, stream_ends, on_ok}
use Rattle.fcgi_gateway.proofs.asking.push_stream.Goals as goal

pub loop-rest-preserved : goal.loop-rest-preserved
loop-rest-preserved c = record {
  sum = stream_step c.args.kind c.loop-rest.rest.now c.split_at.result.0.now c.split_at.result.1.now c.loop-rest.text c.push_record.new.text c.min.result c.min.ensures (omega (arith, c.loop-rest-test.true))
      c.split_at.ensures.front c.split_at.ensures.back c.in_ok-push_record.ensures
      ∙ c.loop-rest.invariant.sum;
}

pub returns : goal.returns
returns c =
    on_ok c.push_header.result _ _ c.push_header.ensures
    (λ is. stream_ends c.args.kind c.loop-rest.rest.now c.loop-rest.text c.push_header.new.text _ (omega (arith, c.loop-rest-test.false)) is c.loop-rest.invariant.sum)
