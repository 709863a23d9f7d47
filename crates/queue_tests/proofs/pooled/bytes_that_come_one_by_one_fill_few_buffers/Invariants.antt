use Rattle.std.proofs.Common.{length}
use Rattle.buffer_pool.specs.Kept.{HeldWithin}
use Rattle.queue_tests.proofs.pooled.bytes_that_come_one_by_one_fill_few_buffers.Given as goal

abbrev pub invariant-loop-round : goal.invariant-loop-round
invariant-loop-round g l = HeldWithin l.store (length l.queue.numbers)

abbrev pub invariant-loop-round-2 : goal.invariant-loop-round-2
invariant-loop-round-2 g l = HeldWithin l.store (length l.queue.numbers)
