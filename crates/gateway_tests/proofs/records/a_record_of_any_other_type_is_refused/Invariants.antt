use Rattle.buffer_pool.specs.Kept.{HeldWithin}
use Rattle.gateway_tests.proofs.records.a_record_of_any_other_type_is_refused.Given as goal

abbrev pub invariant-loop-kind : goal.invariant-loop-kind
invariant-loop-kind g l = HeldWithin l.store 0
