use Rattle.std.proofs.Common.{length}
use Rattle.buffer_pool.specs.Kept.{HeldWithin}
use Rattle.queue_tests.proofs.played.played.Given as goal

abbrev pub invariant-loop : goal.invariant-loop
invariant-loop g l = HeldWithin (g.Q.Queue.stored l.store) (length (g.Q.Queue.contents l.queue).numbers)
