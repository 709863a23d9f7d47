-- What a read of a source gives, and what a write to a sink takes (src/streams.rt).
use Rattle.std.specs.Prelude.{◌≡◌, ℕ, ◌<◌, ◌≤◌, List, [], ◌++◌, length, take}

-- a read gives the next bytes, and none only at the end or into no room
pub record Gives (n : ℕ) (before buf after : List ℕ) : Type 0 where
  pub next : before ≡ take n buf ++ after
  pub at_end : 0 < length buf → n ≡ 0 → before ≡ []

-- a write takes at most the whole piece, and at least a byte of one that isn't empty
pub record TakesSome (size n : ℕ) : Type 0 where
  pub within : n ≤ size
  pub some : 0 < size → 1 ≤ n
