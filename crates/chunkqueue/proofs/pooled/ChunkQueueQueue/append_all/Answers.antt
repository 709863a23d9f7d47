use Rattle.std.proofs.Common.{arith}
use Rattle.chunkqueue.proofs.Queues.{join_room}
use Rattle.chunkqueue.proofs.pooled.ChunkQueueQueue.append_all.Goals as goal

pub append_chunks-requires-clause-countable : goal.append_chunks-requires-clause-countable
append_chunks-requires-clause-countable c = omega (arith, join_room _ _ c.self.inside.chunks c.from.inside.chunks _ _ c.self.view_is c.from.view_is c.self.invariant c.from.invariant c.requires.fits)
