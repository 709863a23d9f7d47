use Rattle.std.proofs.Common.{ℕ, List, flat_map, ap, ◌∙◌}
use Rattle.chunkqueue.proofs.Queues.{pooled_slices}
use Rattle.chunkqueue.proofs.pooled.ChunkQueue.slices.Goals as goal

pub returns : goal.returns
returns c = record {
  bytes = ap (λ (slices : List (List ℕ)). flat_map (λ (slice : List ℕ). slice) slices) c.of.ensures ∙ pooled_slices _ c.self.inside.chunks _ c.self.view_is c.self.invariant;
}
