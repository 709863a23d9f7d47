use Rattle.std.proofs.Common.{◌≡◌, length}
use Rattle.buffer_pool.specs.Kept.{numbers, Kept, HeldWithin}
use Rattle.chunkqueue.proofs.advancing.empty.Given as goal

abbrev pub invariant-loop-chunk : goal.invariant-loop-chunk
invariant-loop-chunk l = record {
  counted : HeldWithin l.pool (length (numbers l.chunks));
  filled : l.pool.filled ≡ l.initial.pool.filled;
  kept : Kept l.initial.pool (numbers l.initial.chunks) l.pool (numbers l.chunks);
}

abbrev pub decreases-loop-chunk : goal.decreases-loop-chunk
decreases-loop-chunk l = length l.chunks
