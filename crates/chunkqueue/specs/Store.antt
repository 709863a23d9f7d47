-- What a store keeps of buffers.
use Rattle.std.specs.Prelude.{[]}
use Rattle.buffer_pool.specs.State.{PoolState}

-- no node was made
abbrev pub unused : PoolState
unused = record { free = []; made = 0; filled = 0 }
