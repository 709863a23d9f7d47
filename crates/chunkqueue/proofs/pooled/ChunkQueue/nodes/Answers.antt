use Rattle.chunkqueue.proofs.Queues.{pooled_dense}
use Rattle.chunkqueue.proofs.pooled.ChunkQueue.nodes.Goals as goal

pub returns-clause-dense : goal.returns-clause-dense
returns-clause-dense c = pooled_dense _ c.self.inside.chunks _ c.self.view_is c.self.invariant
