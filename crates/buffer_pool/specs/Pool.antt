-- What `take` and `reserve` make of a pool.
use Rattle.std.specs.Prelude.{◌≡◌, zero, suc, ℕ, ◌+◌, ◌<◌, ◌^◌, List, [], ◌∷◌, ◌++◌, Result, Ok, MatchResult}
use Rattle.buffer_pool.specs.State.{ChunkState, PoolState}
use Rattle.buffer_pool.specs.Edits.{blank}
use Rattle.lt_bytes.specs.declared.memory.NoMemory.{NoMemory}

-- the k numbers from n on
abbrev pub numbers_from : ℕ → ℕ → List ℕ
numbers_from n zero = []
numbers_from n (suc k) = numbers_from n k ++ (n + k) ∷ []

-- k more nodes, free behind those that are free already
abbrev pub grown : PoolState → ℕ → PoolState
grown p k = record p { free = p.free ++ numbers_from p.made k; made = p.made + k }

-- the pool grew by fewer than n nodes
abbrev pub GrowsBelow : PoolState → PoolState → ℕ → Type 0
GrowsBelow old new n = (k : ℕ) × (k < n) × (new ≡ grown old k)

-- the node that is first of those that are free; where none is free a new one, with the next number, if there is memory and that number is below 2^64 - 1
abbrev pub takes_from : List ℕ → PoolState → Result ChunkState NoMemory → PoolState → Type 0
takes_from [] old result new = MatchResult result (λ c. (c ≡ blank old.made) × (old.made + 1 < 2 ^ 64) × (new ≡ record old { made = old.made + 1 })) (λ _. new ≡ old)
takes_from (n ∷ rest) old result new = (result ≡ Ok (blank n)) × (new ≡ record old { free = rest })

abbrev pub Takes : PoolState → Result ChunkState NoMemory → PoolState → Type 0
Takes old result new = takes_from old.free old result new
