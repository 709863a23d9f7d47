use Rattle.buffer_pool.specs.Kept.{HeldWithin}
use Rattle.bench_answers.proofs.answers.Given as goal

abbrev pub invariant-loop : goal.invariant-loop
invariant-loop l = HeldWithin l.store 0
