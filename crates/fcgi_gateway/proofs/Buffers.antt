-- The numbers of the buffers of a task's two queues, where a call changes some of them.
use Rattle.std.proofs.Common.{◌≡◌, ℕ, ◌+◌, List, [], ◌++◌, length, append-nil, length-append, subst, sym, ◌∙◌, arith}
use Rattle.buffer_pool.specs.State.{PoolState}
use Rattle.buffer_pool.specs.Kept.{Kept, places}
use Rattle.buffer_pool.proofs.Keeping.{places_append, kept_both, kept_beside}

-- the first queue is changed
pub first_kept : (p q : PoolState) (all a b new : List ℕ) → a ++ b ≡ all → Kept p a q new → Kept p all q (new ++ b)
first_kept p q all a b new is one = subst (λ (ns : List ℕ). Kept p ns q (new ++ b)) is (record {
  rises = one.rises;
  counts = λ n. omega (arith, one.counts n, places_append n a b, places_append n new b);
  total = omega (arith, one.total, length-append a b, length-append new b);
})

-- the second
pub second_kept : (p q : PoolState) (all a b new : List ℕ) → a ++ b ≡ all → Kept p b q new → Kept p all q (a ++ new)
second_kept p q all a b new is one = subst (λ (ns : List ℕ). Kept p ns q (a ++ new)) is (kept_beside p q a b new one)

-- both are closed
pub closed_kept : (p q r : PoolState) (all a b : List ℕ) → a ++ b ≡ all → Kept p a q [] → Kept q b r [] → Kept p all r []
closed_kept p q r all a b is one two = kept_both p q r all b [] (first_kept p q all a b [] is one) two

-- the first is closed, and another queue takes the second
pub answered_kept : (p q r : PoolState) (all a b into now : List ℕ) → a ++ b ≡ all → Kept p a q [] → Kept q (b ++ into) r now → Kept p (all ++ into) r now
answered_kept p q r all a b into now is one two =
    subst (λ (ns : List ℕ). Kept p (ns ++ into) r now) is (record {
      rises = omega (arith, one.rises, two.rises);
      counts = (kept_both p q r ((a ++ b) ++ into) (b ++ into) now (record {
        rises = one.rises;
        counts = λ n. omega (arith, one.counts n, places_append n (a ++ b) into, places_append n a b, places_append n b into);
        total = omega (arith, one.total, length-append (a ++ b) into, length-append a b, length-append b into);
      }) two).counts;
      total = omega (arith, one.total, two.total, length-append (a ++ b) into, length-append a b, length-append b into);
    })

-- what is left of a queue goes behind another, and the queue is closed
pub handed_kept : (p q r s : PoolState) (queue rest into into' from : List ℕ) → Kept p queue q rest → Kept q (into ++ rest) r into' → from ≡ [] → Kept r from s [] → Kept p (queue ++ into) s into'
handed_kept p q r s queue rest into into' from one two none three =
    let first : Kept p (queue ++ into) q (into ++ rest) = record {
      rises = one.rises;
      counts = λ n. omega (arith, one.counts n, places_append n queue into, places_append n into rest);
      total = omega (arith, one.total, length-append queue into, length-append into rest);
    } in
    let closed : Kept r [] s [] = subst (λ (l : List ℕ). Kept r l s []) none three in
    let last : Kept r into' s into' = subst (λ (l : List ℕ). Kept r l s l) (append-nil into') (kept_beside r s into' [] [] closed) in
    kept_both p r s (queue ++ into) into' into' (kept_both p q r (queue ++ into) (into ++ rest) into' first two) last
