use Rattle.std.proofs.Common.{◌<◌, length}
use Rattle.buffer_pool.specs.Kept.{HeldWithin}
use Rattle.bench_records.proofs.run.Given as goal

abbrev pub invariant-loop-round : goal.invariant-loop-round
invariant-loop-round l = record {
  held : HeldWithin l.store (length l.out.numbers);
  place : l.place < 65543;
}
