use Rattle.std.proofs.Common.{length}
use Rattle.buffer_pool.specs.Kept.{HeldWithin}
use Rattle.gateway_tests.proofs.records.an_answer_is_read_byte_by_byte.Given as goal

abbrev pub invariant-loop-place : goal.invariant-loop-place
invariant-loop-place g l = HeldWithin l.store (length l.out.numbers)
