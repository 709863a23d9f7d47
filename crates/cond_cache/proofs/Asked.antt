-- The blocks whose conditions were compared.
use Rattle.std.proofs.Common.{◌≡◌, ℕ, zero, suc, ◌≤◌, List, [], ◌∷◌, length, slice_get, Option, Some, None, refl, sym, ap, subst, arith}
use Rattle.std.specs.Option.{IsSome}
use Rattle.std.proofs.lemmas.Bool.{false≢true}
use Rattle.std.proofs.lemmas.Option.{none-some, same_Some, slice_get_within}
use Rattle.conf_value.specs.declared.block.Block.{Block}
use Rattle.conf_value.specs.declared.condition.Condition.{Condition}
use Rattle.conf_value.specs.declared.truth.Truth.{Truth}
use Rattle.conditions.specs.Attributes.{Attributes}
use Rattle.cond_cache.specs.declared.place.Place.{Place}
use Rattle.cond_cache.specs.declared.place.Place.TheVariants.{Unasked, Given, Bare, Compared}
use Rattle.cond_cache.specs.Truths.{standings}
use Rattle.cond_cache.specs.Kept.{AreRight, asked, asked_from, conditions_in, conditions_with}
use Rattle.cond_cache.proofs.Lists.{there}
use Rattle.cond_cache.proofs.Standing.{as_many}

-- none stands before the first
asked_behind : (n : ℕ) (places : List Place) (i m : ℕ) → slice_get (asked_from n places) i ≡ Some m → n ≤ m
asked_behind n [] i m e = absurd (none-some m e)
asked_behind n (Compared t groups ∷ places) zero m e = let s = same_Some n m e in omega (arith, s)
asked_behind n (Compared t groups ∷ places) (suc i) m e = let h = asked_behind (suc n) places i m e in omega (arith, h)
asked_behind n (Unasked ∷ places) i m e = let h = asked_behind (suc n) places i m e in omega (arith, h)
asked_behind n (Given t ∷ places) i m e = let h = asked_behind (suc n) places i m e in omega (arith, h)
asked_behind n (Bare ∷ places) i m e = let h = asked_behind (suc n) places i m e in omega (arith, h)

asked_once : (n : ℕ) (places : List Place) (i j m : ℕ) → slice_get (asked_from n places) i ≡ Some m → slice_get (asked_from n places) j ≡ Some m → i ≡ j
asked_once n [] i j m e f = absurd (none-some m e)
asked_once n (Compared t groups ∷ places) zero zero m e f = refl
asked_once n (Compared t groups ∷ places) zero (suc j) m e f = let s = same_Some n m e in let h = asked_behind (suc n) places j m f in absurd (omega (arith, s, h))
asked_once n (Compared t groups ∷ places) (suc i) zero m e f = let s = same_Some n m f in let h = asked_behind (suc n) places i m e in absurd (omega (arith, s, h))
asked_once n (Compared t groups ∷ places) (suc i) (suc j) m e f = ap suc (asked_once (suc n) places i j m e f)
asked_once n (Unasked ∷ places) i j m e f = asked_once (suc n) places i j m e f
asked_once n (Given t ∷ places) i j m e f = asked_once (suc n) places i j m e f
asked_once n (Bare ∷ places) i j m e f = asked_once (suc n) places i j m e f

-- no block stands in the list twice
pub no_block_twice : (places : List Place) (i j m : ℕ) → slice_get (asked places) i ≡ Some m → slice_get (asked places) j ≡ Some m → i ≡ j
no_block_twice places = asked_once 0 places

-- where only blocks with a condition were compared, there are at most as many
few : (n : ℕ) (blocks : List Block) (places : List Place) → length places ≡ length blocks
    → ((m : ℕ) (b : Block) (t : Truth) (groups : List (List ℕ)) → slice_get blocks m ≡ Some b → slice_get places m ≡ Some (Compared t groups) → IsSome b.condition)
    → length (asked_from n places) ≤ conditions_in blocks
few n blocks [] p h = omega arith
few n [] (q ∷ places) p h = absurd (omega (arith, p))
few n (b ∷ blocks) (q ∷ places) p h = by (few (suc n) blocks places (omega (arith, p)) (λ m c t groups e f. h (suc m) c t groups e f)) q refl
  where
    one : (o : Option Condition) → b.condition ≡ o → IsSome o → suc (conditions_in blocks) ≡ conditions_in (b ∷ blocks)
    one None e s = absurd (false≢true s)
    one (Some c) e s = sym (ap (λ (o : Option Condition). conditions_with o (conditions_in blocks)) e)

    more : conditions_in blocks ≤ conditions_in (b ∷ blocks)
    more = at_least b.condition
      where
        at_least : (o : Option Condition) → conditions_in blocks ≤ conditions_with o (conditions_in blocks)
        at_least None = omega arith
        at_least (Some c) = omega arith

    by : length (asked_from (suc n) places) ≤ conditions_in blocks → (place : Place) → q ≡ place → length (asked_from n (q ∷ places)) ≤ conditions_in (b ∷ blocks)
    by rest Unasked e = subst (λ (x : Place). length (asked_from n (x ∷ places)) ≤ conditions_in (b ∷ blocks)) (sym e) (omega (arith, rest, more))
    by rest (Given t) e = subst (λ (x : Place). length (asked_from n (x ∷ places)) ≤ conditions_in (b ∷ blocks)) (sym e) (omega (arith, rest, more))
    by rest Bare e = subst (λ (x : Place). length (asked_from n (x ∷ places)) ≤ conditions_in (b ∷ blocks)) (sym e) (omega (arith, rest, more))
    by rest (Compared t groups) e =
        let o = one b.condition refl (h 0 b t groups refl (ap Some e)) in
        subst (λ (x : Place). length (asked_from n (x ∷ places)) ≤ conditions_in (b ∷ blocks)) (sym e) (omega (arith, rest, o))

-- no more than the configuration has conditions
pub few_asked : (blocks : List Block) (a : Attributes) (places : List Place) → AreRight blocks a places → length (asked places) ≤ conditions_in blocks
few_asked blocks a places right = few 0 blocks places right.many (λ m b t groups e f. by m b t groups e f)
  where
    by : (m : ℕ) (b : Block) (t : Truth) (groups : List (List ℕ)) → slice_get blocks m ≡ Some b → slice_get places m ≡ Some (Compared t groups) → IsSome b.condition
    by m b t groups e f =
        let s = there (standings blocks a) m (omega (arith, slice_get_within blocks m b e, as_many a blocks)) in
        (right.each m b s.item (Compared t groups) e s.is f).condition
