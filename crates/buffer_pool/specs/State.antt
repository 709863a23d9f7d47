-- What chunks and pools are to their callers.
use Rattle.std.specs.Prelude.{ℕ, ◌+◌, ◌≤◌, List, length}
use Rattle.buffer_pool.specs.declared.buffer.Kind.{Kind}
use Rattle.buffer_pool.specs.declared.buffer.TheConstants.{BUFFER_SIZE}

-- a chunk: its number, what it stands for, the bytes that it holds, and how many more can be put in
pub record ChunkState : Type 0 where
  pub number : ℕ
  pub kind : Kind
  pub bytes : List ℕ
  pub room : ℕ

-- what is held and the room after it fit into a buffer
abbrev pub IsWithin : ChunkState → Type 0
IsWithin c = length c.bytes + c.room ≤ BUFFER_SIZE

-- a pool: the numbers of its free nodes, the one that is taken next first, how many nodes it made, and how many bytes were put into buffers
pub record PoolState : Type 0 where
  pub free : List ℕ
  pub made : ℕ
  pub filled : ℕ
