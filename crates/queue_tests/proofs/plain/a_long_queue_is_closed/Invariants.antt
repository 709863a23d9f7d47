use Rattle.std.proofs.Common.{length}
use Rattle.buffer_pool.specs.Kept.{HeldWithin}
use Rattle.queue_tests.proofs.plain.a_long_queue_is_closed.Given as goal

abbrev pub invariant-loop : goal.invariant-loop
invariant-loop g l = HeldWithin l.store (length l.queue.numbers)
