use Rattle.buffer_pool.specs.Kept.{HeldWithin}
use Rattle.gateway_tests.proofs.records.an_answer_is_read_however_it_is_cut.Given as goal

abbrev pub invariant-loop-cut : goal.invariant-loop-cut
invariant-loop-cut g l = HeldWithin l.store 0
