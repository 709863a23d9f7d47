use Rattle.std.proofs.Common.{◌+◌, length}
use Rattle.buffer_pool.specs.Kept.{HeldWithin}
use Rattle.queue_tests.proofs.both.played.Given as goal

abbrev pub invariant-loop-call : goal.invariant-loop-call
invariant-loop-call g l = HeldWithin (g.Q.Queue.stored l.store) (length (g.Q.Queue.contents l.queue).numbers + length (g.Q.Queue.contents l.more).numbers)
