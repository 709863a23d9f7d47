use Rattle.chunkqueue.proofs.Queues.{pooled_leads}
use Rattle.chunkqueue.proofs.pooled.ChunkQueueQueue.front_bytes.Goals as goal

pub returns-clause-leads : goal.returns-clause-leads
returns-clause-leads c = pooled_leads _ c.self.inside.chunks _ _ c.self.view_is c.self.invariant c.front_of.ensures.front
