use Rattle.std.proofs.Common.{◌≡◌, ◌+◌, ◌++◌, length}
use Rattle.chunkqueue.specs.Pooled.{items_of_chunks}
use Rattle.chunkqueue.proofs.splitting.move_whole.Given as goal

abbrev pub invariant-loop-len : goal.invariant-loop-len
invariant-loop-len l = record {
  parts : l.front ++ l.from ≡ l.initial.front ++ l.initial.from;
  count : length (items_of_chunks l.front) + l.left ≡ length (items_of_chunks l.initial.front) + l.n;
  size : length l.front + length l.from ≡ length l.initial.front + length l.initial.from;
}

abbrev pub decreases-loop-len : goal.decreases-loop-len
decreases-loop-len l = length l.from
