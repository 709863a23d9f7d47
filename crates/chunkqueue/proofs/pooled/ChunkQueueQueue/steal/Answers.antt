use Rattle.chunkqueue.proofs.Queues.{steal_room}
use Rattle.chunkqueue.proofs.pooled.ChunkQueueQueue.steal.Goals as goal

pub steal_chunks-requires-clause-countable : goal.steal_chunks-requires-clause-countable
steal_chunks-requires-clause-countable c = steal_room c.self.inside.chunks c.from.inside.chunks c.self.inside.len c.from.inside.len c.self.invariant c.from.invariant
