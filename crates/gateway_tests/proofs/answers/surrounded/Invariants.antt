use Rattle.std.proofs.Common.{length}
use Rattle.buffer_pool.specs.Kept.{HeldWithin}
use Rattle.gateway_tests.proofs.answers.surrounded.Given as goal

abbrev pub invariant-loop : goal.invariant-loop
invariant-loop g l = HeldWithin l.store (length l.body.numbers)
