use Rattle.std.proofs.Common.{◌<◌, length}
use Rattle.buffer_pool.specs.Kept.{HeldWithin}
use Rattle.bench_answers.proofs.answer.Given as goal

abbrev pub invariant-loop : goal.invariant-loop
invariant-loop l = record {
  held : HeldWithin l.store (length l.body.numbers);
  place : l.place < 65545;
}
