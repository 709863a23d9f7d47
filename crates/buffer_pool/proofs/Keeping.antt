-- How often numbers stand in places, over several calls.
use Rattle.std.proofs.Common.{◌≡◌, ℕ, suc, ◌+◌, ◌≤◌, cond, nat_lt, List, [], ◌∷◌, ◌++◌, length, length-append, refl, ap, arith}
use Rattle.buffer_pool.specs.State.{ChunkState, PoolState}
use Rattle.buffer_pool.specs.Edits.{last_of, with_last}
use Rattle.buffer_pool.specs.Kept.{numbers, places, made_between, Kept, HeldWithin}

pub places_append : (n : ℕ) (l m : List ℕ) → places n (l ++ m) ≡ places n l + places n m
places_append n [] m = omega arith
places_append n (x ∷ l) m = omega (arith, places_append n l m)

pub numbers_append : (l m : List ChunkState) → numbers (l ++ m) ≡ numbers l ++ numbers m
numbers_append [] m = refl
numbers_append (c ∷ l) m = ap (λ ns. c.number ∷ ns) (numbers_append l m)

pub length_numbers : (l : List ChunkState) → length (numbers l) ≡ length l
length_numbers [] = refl
length_numbers (c ∷ l) = ap suc (length_numbers l)

-- a last chunk that keeps its number changes no number of the list
pub numbers_with_last : (l : List ChunkState) (x : ChunkState) → x.number ≡ (last_of l).number → numbers (with_last l x) ≡ numbers l
numbers_with_last [] x e = refl
numbers_with_last (c ∷ []) x e = ap (λ n. n ∷ []) e
numbers_with_last (c ∷ d ∷ l) x e = ap (λ ns. c.number ∷ ns) (numbers_with_last (d ∷ l) x e)

pub made_between-sum : (a b c n : ℕ) → a ≤ b → b ≤ c → made_between a c n ≡ made_between a b n + made_between b c n
made_between-sum a b c n low high = grind (arith, low, high)

-- one call after another
pub kept_both : (p q r : PoolState) (g h k : List ℕ) → Kept p g q h → Kept q h r k → Kept p g r k
kept_both p q r g h k one two = record {
  rises = omega (arith, one.rises, two.rises);
  counts = λ n. omega (arith, one.counts n, two.counts n, made_between-sum p.made q.made r.made n one.rises two.rises);
  total = omega (arith, one.total, two.total);
}

-- chunks that a call leaves alone
pub kept_beside : (p q : PoolState) (l g h : List ℕ) → Kept p g q h → Kept p (l ++ g) q (l ++ h)
kept_beside p q l g h one = record {
  rises = one.rises;
  counts = λ n. omega (arith, one.counts n, places_append n l g, places_append n l h);
  total = omega (arith, one.total, length-append l g, length-append l h);
}

-- chunks that only change their place
pub kept_moved : (p : PoolState) (g h : List ℕ) → length g ≡ length h → ((n : ℕ) → places n g ≡ places n h) → Kept p g p h
kept_moved p g h long same = record {
  rises = omega arith;
  counts = λ n. grind (arith, same n);
  total = omega (arith, long);
}

-- a number that becomes free, to be taken next
pub kept_given : (p : PoolState) (n : ℕ) → Kept p (n ∷ []) (record p { free = n ∷ p.free }) []
kept_given p n = record {
  rises = omega arith;
  counts = λ m. grind arith;
  total = omega arith;
}

-- what a call keeps of the condition on spare and held chunks
pub kept_within : (p q : PoolState) (g h : List ℕ) → Kept p g q h → HeldWithin p (length g) → HeldWithin q (length h)
kept_within p q g h one room = omega (arith, one.total, one.rises, room)

-- after any calls from a new pool on, each number below `made` stands in one place, and no other number anywhere; what is free and held is what was made
pub kept_from_new : (q : PoolState) (held : List ℕ) (filled : ℕ) → Kept (record { free = []; made = 0; filled = filled }) [] q held
    → ((n : ℕ) → places n q.free + places n held ≡ cond (nat_lt n q.made) 1 0) × (length q.free + length held ≡ q.made)
kept_from_new q held filled one = (λ n. grind (arith, one.counts n), omega (arith, one.total))
