use Rattle.std.proofs.Common.{length}
use Rattle.buffer_pool.specs.Kept.{HeldWithin, Kept}
use Rattle.queue_tests.proofs.calls.taken.Given as goal

abbrev pub invariant-loop-left : goal.invariant-loop-left
invariant-loop-left g l =
    HeldWithin (g.Q.Queue.stored l.store) (length (g.Q.Queue.contents l.queue).numbers)
    × Kept (g.Q.Queue.stored l.fn.store) (g.Q.Queue.contents l.fn.queue).numbers (g.Q.Queue.stored l.store) (g.Q.Queue.contents l.queue).numbers

abbrev pub decreases-loop-left : goal.decreases-loop-left
decreases-loop-left g l = l.left
