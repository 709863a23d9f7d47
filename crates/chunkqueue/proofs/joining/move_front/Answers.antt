use Rattle.std.proofs.Common.{ap}
use Rattle.buffer_pool.specs.Kept.{numbers}
use Rattle.chunkqueue.proofs.Following.{moved_kept}
use Rattle.chunkqueue.proofs.joining.move_front.Goals as goal

pub returns-in-Some-clause-kept : goal.returns-in-Some-clause-kept
returns-in-Some-clause-kept c =
    moved_kept c.args.pool.now c.attach.new.pool (numbers c.args.chunks.now) (numbers c.attach.new.chunks) (numbers c.args.from.now) (numbers c.pop_front.new.self) c.in-Some.chunk.number (ap numbers c.in-Some.ensures.first) c.attach.ensures.kept
