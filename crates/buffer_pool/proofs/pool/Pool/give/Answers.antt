use Rattle.buffer_pool.specs.State.{PoolState}
use Rattle.buffer_pool.specs.Kept.{numbers}
use Rattle.buffer_pool.proofs.Keeping.{kept_given}
use Rattle.buffer_pool.proofs.pool.Pool.give.Goals as goal

pub returns-clause-kept : goal.returns-clause-kept
returns-clause-kept c =
    let before = c.self.inside in
    let old : PoolState = record { free = numbers before.free; made = before.made; filled = before.filled } in
    rw (← c.self.view_is) (rw c.push_front.ensures (kept_given old c.args.chunk.number))
