-- What each call makes of a chunk, of the ends of a list and of a pool.
use Rattle.std.specs.Prelude.{ℕ, ◌+◌, ◌-◌, ◌^◌, min, List, [], ◌∷◌, ◌++◌, length, drop, if◌then◌else◌, nat_lt}
use Rattle.buffer_pool.specs.State.{ChunkState, PoolState}
use Rattle.buffer_pool.specs.declared.buffer.Kind.TheVariants.{Bytes, File}
use Rattle.buffer_pool.specs.declared.buffer.TheConstants.{BUFFER_SIZE}

-- a chunk of this number that holds nothing
abbrev pub blank : ℕ → ChunkState
blank n = record { number = n; kind = Bytes; bytes = []; room = BUFFER_SIZE }

abbrev pub put_in : ChunkState → List ℕ → ChunkState
put_in c bytes = record c { bytes = c.bytes ++ bytes; room = c.room - length bytes }

-- the first n bytes are taken off: they give room again only where nothing is left
abbrev pub dropped : ChunkState → ℕ → ChunkState
dropped c n = record c { bytes = drop n c.bytes; room = if nat_lt n (length c.bytes) then c.room else BUFFER_SIZE }

abbrev pub packed : ChunkState → ChunkState
packed c = record c { room = BUFFER_SIZE - length c.bytes }

abbrev pub as_file : ChunkState → ℕ → ℕ → ℕ → ChunkState
as_file c file start len = record c { kind = File file start len }

-- the first chunk, where there is one
abbrev pub first_of : List ChunkState → ChunkState
first_of [] = blank 0
first_of (c ∷ cs) = c

-- the last chunk, where there is one
abbrev pub last_of : List ChunkState → ChunkState
last_of [] = blank 0
last_of (c ∷ []) = c
last_of (c ∷ d ∷ cs) = last_of (d ∷ cs)

-- the list with x in place of its first chunk
abbrev pub with_first : List ChunkState → ChunkState → List ChunkState
with_first [] x = []
with_first (c ∷ cs) x = x ∷ cs

-- the list with x in place of its last chunk
abbrev pub with_last : List ChunkState → ChunkState → List ChunkState
with_last [] x = []
with_last (c ∷ []) x = x ∷ []
with_last (c ∷ d ∷ cs) x = c ∷ with_last (d ∷ cs) x

-- n more bytes were put into buffers; the count stays at its greatest value once there
abbrev pub filled_by : PoolState → ℕ → PoolState
filled_by p n = record p { filled = min (p.filled + n) (2 ^ 64 - 1) }
