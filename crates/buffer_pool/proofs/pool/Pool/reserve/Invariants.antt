use Rattle.std.proofs.Common.{◌-◌, length}
use Rattle.buffer_pool.proofs.Growing.{GrowingTo}
use Rattle.buffer_pool.proofs.pool.Pool.reserve.Given as goal

abbrev pub invariant-loop-self : goal.invariant-loop-self
invariant-loop-self l = GrowingTo l.n l.initial.self l.self

abbrev pub decreases-loop-self : goal.decreases-loop-self
decreases-loop-self l = l.n - length l.self.free
