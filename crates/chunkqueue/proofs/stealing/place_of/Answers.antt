use Rattle.std.proofs.Common.{arith}
use Rattle.chunkqueue.proofs.Cutting.{placing_more}
use Rattle.chunkqueue.proofs.stealing.place_of.Goals as goal

pub loop-segment-preserved : goal.loop-segment-preserved
loop-segment-preserved c =
    placing_more c.args.list.now c.loop-segment.segment-iterator c.next.new.self c.in-Some.segment.now c.args.n c.loop-segment.count c.loop-segment.left c.len-len.result c.loop-segment.invariant c.in-Some.ensures.steps c.len-len.ensures (omega arith)
