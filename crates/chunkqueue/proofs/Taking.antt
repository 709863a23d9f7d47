-- What a chunk from a pool is, and what is kept with it.
use Rattle.std.proofs.Common.{◌≡◌, ℕ, List, [], ◌∷◌, ◌++◌, arith, ap, sym, ◌∙◌}
use Rattle.std.specs.Prelude.{Ok}
use Rattle.buffer_pool.specs.State.{ChunkState, PoolState}
use Rattle.buffer_pool.specs.Edits.{blank}
use Rattle.buffer_pool.specs.Kept.{Kept}
use Rattle.buffer_pool.specs.Pool.{takes_from}
use Rattle.buffer_pool.proofs.Keeping.{places_append, made_between-sum}
use Rattle.std.proofs.lemmas.List.{length-append}

named : (c : ChunkState) (n : ℕ) → c ≡ blank n → c ≡ blank c.number
named c n e = e ∙ ap blank (sym (ap (λ (d : ChunkState). d.number) e))

inside : (c : ChunkState) (n : ℕ) (free : List ℕ) (p q : PoolState) → takes_from (n ∷ free) p (Ok c) q → c ≡ blank n
inside c n free p q had = let e = had.0 in cc

-- it holds nothing
pub taken_blank : (free : List ℕ) (p q : PoolState) (c : ChunkState) → takes_from free p (Ok c) q → c ≡ blank c.number
taken_blank [] p q c had = named c p.made had.0
taken_blank (n ∷ free) p q c had = named c n (inside c n free p q had)

-- a chunk that was taken, and changed, stands behind the others
pub kept_pushed : (p q r : PoolState) (l : List ℕ) (n : ℕ) → Kept p [] q (n ∷ []) → Kept q (n ∷ []) r (n ∷ []) → Kept p l r (l ++ n ∷ [])
kept_pushed p q r l n one two = record {
  rises = omega (arith, one.rises, two.rises);
  counts = λ m. grind (arith, one.counts m, two.counts m, places_append m l (n ∷ []), made_between-sum p.made q.made r.made m one.rises two.rises);
  total = omega (arith, one.total, two.total, length-append l (n ∷ []));
}

pub kept_taken : (p q : PoolState) (l new : List ℕ) (n : ℕ) → Kept p [] q (n ∷ []) → new ≡ l ++ n ∷ [] → Kept p l q new
kept_taken p q l new n one is = rw is (record {
  rises = one.rises;
  counts = λ m. omega (arith, one.counts m, places_append m l (n ∷ []));
  total = omega (arith, one.total, length-append l (n ∷ []));
})

pub piece_kept : (p p₁ q r : PoolState) (l l₁ next : List ℕ) (m n : ℕ) → p₁ ≡ p → Kept p₁ [] q (n ∷ []) → Kept q (n ∷ []) r (m ∷ []) → m ≡ n → l₁ ≡ l → next ≡ l₁ ++ m ∷ [] → Kept p l r next
piece_kept p p₁ q r l l₁ next m n still one two same e is =
    rw (is, e, same) (kept_pushed p q r l n (rw still at one) (rw same at two))
