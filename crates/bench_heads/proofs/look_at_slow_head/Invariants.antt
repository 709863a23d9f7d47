use Rattle.std.proofs.Common.{length}
use Rattle.buffer_pool.specs.Kept.{HeldWithin}
use Rattle.bench_heads.proofs.look_at_slow_head.Given as goal

abbrev pub invariant-loop : goal.invariant-loop
invariant-loop l = HeldWithin l.store (length l.conn.numbers)
