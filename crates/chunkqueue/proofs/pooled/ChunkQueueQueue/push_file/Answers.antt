use Rattle.std.proofs.Common.{arith}
use Rattle.chunkqueue.proofs.Queues.{push_room, range_pooled}
use Rattle.chunkqueue.proofs.pooled.ChunkQueueQueue.push_file.Goals as goal

pub append_range-requires-clause-countable : goal.append_range-requires-clause-countable
append_range-requires-clause-countable c = omega (arith, push_room _ c.self.inside.chunks _ c.args.len c.self.view_is c.self.invariant c.requires.fits)

pub invariant_of-self : goal.invariant_of-self
invariant_of-self c = range_pooled _ c.self.inside.chunks _ _ _ _ _ c.self.view_is c.self.invariant c.in-Ok.ensures.gains c.requires.fits
