use Rattle.std.proofs.Common.{arith, ◌∙◌}
use Rattle.chunkqueue.proofs.Parting.{moved_parts, moved_count, moved_size}
use Rattle.chunkqueue.proofs.splitting.move_whole.Goals as goal

pub loop-len-preserved : goal.loop-len-preserved
loop-len-preserved c = record {
  parts = moved_parts c.loop-len.front c.loop-len.from c.move_chunk.new.front c.move_chunk.new.from c.move_chunk.ensures.front c.move_chunk.ensures.from ∙ c.loop-len.invariant.parts;
  count = omega (arith, c.loop-len.invariant.count, c.in-Some.ensures.2, moved_count c.loop-len.front c.loop-len.from c.move_chunk.new.front c.in-Some.len c.move_chunk.ensures.front c.in-Some.ensures.0 c.in-Some.ensures.1);
  size = (moved_size c.loop-len.front c.loop-len.from c.move_chunk.new.front c.move_chunk.new.from c.move_chunk.ensures.front c.move_chunk.ensures.from c.in-Some.ensures.0).0 ∙ c.loop-len.invariant.size;
}
