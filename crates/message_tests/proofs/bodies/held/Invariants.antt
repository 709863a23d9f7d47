use Rattle.std.proofs.Common.{length}
use Rattle.buffer_pool.specs.Kept.{HeldWithin}
use Rattle.message_tests.proofs.bodies.held.Given as goal

abbrev pub invariant-loop-round : goal.invariant-loop-round
invariant-loop-round g l = HeldWithin l.store (length l.body.numbers)
