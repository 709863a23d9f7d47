-- A pool that makes nodes.
use Rattle.std.proofs.Common.{◌≡◌, ℕ, zero, suc, ◌+◌, ◌-◌, ◌<◌, ◌≤◌, List, [], ◌∷◌, ◌++◌, length, refl, sym, ap, subst, ◌∙◌, arith, append_assoc, length-append}
use Rattle.buffer_pool.specs.State.{PoolState}
use Rattle.buffer_pool.specs.Kept.{places, made_between, Kept}
use Rattle.buffer_pool.specs.Pool.{numbers_from, grown, GrowsBelow}
use Rattle.buffer_pool.proofs.Keeping.{places_append}

pub length_numbers_from : (m k : ℕ) → length (numbers_from m k) ≡ k
length_numbers_from m zero = refl
length_numbers_from m (suc k) = omega (arith, length-append (numbers_from m k) ((m + k) ∷ []), length_numbers_from m k)

pub length_grown : (p : PoolState) (k : ℕ) → length (grown p k).free ≡ length p.free + k
length_grown p k = omega (arith, length-append p.free (numbers_from p.made k), length_numbers_from p.made k)

free_more : (l ns : List ℕ) (x y : ℕ) → x ≡ y → (l ++ ns) ++ (x ∷ []) ≡ l ++ (ns ++ y ∷ [])
free_more l ns x y e = append_assoc l ns (x ∷ []) ∙ ap (λ z. l ++ (ns ++ z ∷ [])) e

append_nil : (l : List ℕ) → l ≡ l ++ []
append_nil [] = refl
append_nil (x ∷ l) = ap (λ m. x ∷ m) (append_nil l)

whole : (n : ℕ) → n ≡ n + 0
whole n = omega arith

-- one node after k others
pub grown_more : (p : PoolState) (k : ℕ) → grown (grown p k) 1 ≡ grown p (suc k)
grown_more p k =
    let free = free_more p.free (numbers_from p.made k) (p.made + k + 0) (p.made + k) (omega arith) in
    let made : p.made + k + 1 ≡ p.made + suc k = omega arith in
    λ i. record p { free = free i; made = made i }

one_place : (m k n : ℕ) → places n ((m + k) ∷ []) + made_between m (m + k) n ≡ made_between m (m + suc k) n
one_place m k n = grind arith

places_from : (n m k : ℕ) → places n (numbers_from m k) ≡ made_between m (m + k) n
places_from n m zero = grind arith
places_from n m (suc k) = places_append n (numbers_from m k) ((m + k) ∷ []) ∙ omega (arith, places_from n m k, one_place m k n)

pub grown_kept : (p : PoolState) (k : ℕ) → Kept p [] (grown p k) []
grown_kept p k = record {
  rises = omega arith;
  counts = λ n. omega (arith, places_append n p.free (numbers_from p.made k), places_from n p.made k);
  total = omega (arith, length_grown p k);
}

spare_after : (p q : PoolState) (k : ℕ) → q ≡ grown p k → length q.free ≡ length p.free + k
spare_after p q k e = ap (λ (s : PoolState). length s.free) e ∙ length_grown p k

-- the pool p has grown to q on its way to n free nodes
pub record GrowingTo (n : ℕ) (p q : PoolState) : Type 0 where
  pub rises : p.made ≤ q.made
  pub wanted : q.made - p.made ≤ n - length p.free
  pub grew : q ≡ grown p (q.made - p.made)

pub growing_from : (n : ℕ) (p : PoolState) → GrowingTo n p p
growing_from n p =
    let none : 0 ≡ p.made - p.made = omega arith in
    let start : p ≡ grown p 0 = λ i. record p { free = append_nil p.free i; made = whole p.made i } in
    record { rises = omega arith; wanted = omega arith; grew = start ∙ ap (grown p) none }

pub growing_on : (n : ℕ) (p q r : PoolState) → GrowingTo n p q → length q.free < n → r ≡ grown q 1 → GrowingTo n p r
growing_on n p q r so few one =
    let k = q.made - p.made in
    let spare = spare_after p q k so.grew in
    let made : r.made ≡ q.made + 1 = ap (λ (s : PoolState). s.made) one in
    let more : suc k ≡ r.made - p.made = omega (arith, made, so.rises) in
    let all : r ≡ grown p (suc k) = one ∙ ap (λ (s : PoolState). grown s 1) so.grew ∙ grown_more p k in
    record { rises = omega (arith, made, so.rises); wanted = omega (arith, made, spare, few, so.rises); grew = all ∙ ap (grown p) more }

pub growing_below : (n : ℕ) (p q : PoolState) → GrowingTo n p q → length q.free < n → GrowsBelow p q (n - length p.free)
growing_below n p q so few = (q.made - p.made, omega (arith, spare_after p q (q.made - p.made) so.grew, few), so.grew)

pub growing_done : (n : ℕ) (p q : PoolState) → GrowingTo n p q → n ≤ length q.free → q ≡ grown p (n - length p.free)
growing_done n p q so enough =
    let all : q.made - p.made ≡ n - length p.free = omega (arith, spare_after p q (q.made - p.made) so.grew, so.wanted, enough) in
    so.grew ∙ ap (grown p) all

pub growing_kept : (n : ℕ) (p q : PoolState) → GrowingTo n p q → Kept p [] q []
growing_kept n p q so = subst (λ (s : PoolState). Kept p [] s []) (sym so.grew) (grown_kept p (q.made - p.made))
