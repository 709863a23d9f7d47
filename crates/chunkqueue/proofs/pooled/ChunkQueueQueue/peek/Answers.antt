use Rattle.std.proofs.Common.{ℕ, List, min, length, take, ap, ◌∙◌}
use Rattle.chunkqueue.proofs.Queues.{pooled_peeked}
use Rattle.chunkqueue.proofs.pooled.ChunkQueueQueue.peek.Goals as goal

pub returns-clause-count : goal.returns-clause-count
returns-clause-count c = c.peek_into.ensures.count ∙ ap (λ (m : List ℕ). min (length c.args.buf.now) (length m)) (pooled_peeked _ c.self.inside.chunks _ c.self.view_is c.self.invariant)

pub returns-clause-bytes : goal.returns-clause-bytes
returns-clause-bytes c = c.peek_into.ensures.bytes ∙ ap (λ (m : List ℕ). take c.peek_into.result m) (pooled_peeked _ c.self.inside.chunks _ c.self.view_is c.self.invariant)
