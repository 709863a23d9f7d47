-- How often a number stands somewhere, and what a call keeps of that.
use Rattle.std.specs.Prelude.{◌≡◌, ℕ, ◌+◌, ◌≤◌, ◌&&◌, nat_le, nat_lt, List, [], ◌∷◌, ◌==◌, if◌then◌else◌, map, length}
use Rattle.buffer_pool.specs.State.{ChunkState, PoolState}

-- the numbers of the chunks of a list
abbrev pub numbers : List ChunkState → List ℕ
numbers = map (λ c. c.number)

-- how often n stands in a list of numbers
abbrev pub places : ℕ → List ℕ → ℕ
places n [] = 0
places n (m ∷ ms) = (if m == n then 1 else 0) + places n ms

-- 1 for a number that was made as the count of nodes rose from before to after
abbrev pub made_between : ℕ → ℕ → ℕ → ℕ
made_between before after n = if nat_le before n && nat_lt n after then 1 else 0

-- what a call keeps that was lent or given chunks with the numbers `given`, and leaves chunks with the numbers `answer` in what was lent and in its answer
pub record Kept (old : PoolState) (given : List ℕ) (new : PoolState) (answer : List ℕ) : Type 0 where
  -- no node is unmade
  pub rises : old.made ≤ new.made
  -- each number that the call made stands in one more place, and every other number in as many as before
  pub counts : (n : ℕ) → places n new.free + places n answer ≡ places n old.free + places n given + made_between old.made new.made n
  -- so the sum of these counts rises by just what was made
  pub total : length new.free + length answer + old.made ≡ length old.free + length given + new.made

-- the spare nodes and `count` chunks that are held elsewhere are together at most all that were made
abbrev pub HeldWithin : PoolState → ℕ → Type 0
HeldWithin pool count = length pool.free + count ≤ pool.made
