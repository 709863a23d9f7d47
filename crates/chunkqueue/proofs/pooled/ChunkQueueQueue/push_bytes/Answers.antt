use Rattle.chunkqueue.proofs.Queues.{push_room}
use Rattle.chunkqueue.proofs.pooled.ChunkQueueQueue.push_bytes.Goals as goal

pub append_bytes-requires-clause-countable : goal.append_bytes-requires-clause-countable
append_bytes-requires-clause-countable c = push_room _ c.self.inside.chunks _ _ c.self.view_is c.self.invariant c.requires.fits
