-- What stands in texts, and how long they are.
use Rattle.std.proofs.Common.{◌≡◌, ◌≢◌, ℕ, ◌-◌, ◌<◌, suc, zero, Bool, false, ◌||◌, ◌&&◌, List, [], ◌∷◌, length, drop, refl, ◌∙◌, ap, arith}
use Rattle.std.specs.List.{list_all}
use Rattle.conf_value.specs.declared.value.Pair.{Pair}
use Rattle.settings.specs.Checking.{are_short, has_name, opens_name, pair_is_short}

-- no name begins here
pub name_later : (text : List ℕ) (at : ℕ) → at < length text → opens_name (drop at text) ≡ false → has_name (drop at text) ≡ has_name (drop (suc at) text)
name_later [] at low e = absurd (omega (arith, low))
name_later (b ∷ text) zero low e = ap (λ (x : Bool). x || has_name text) e
name_later (b ∷ text) (suc at) low e = name_later text at (omega (arith, low)) e

pub none_deep : (depth : ℕ) (pairs : List Pair) → depth ≡ 0 → are_short depth pairs ≡ false
unfolding are_short
none_deep zero pairs e = refl
none_deep (suc d) pairs e = absurd (omega arith)

pub one_deep : (depth : ℕ) (pairs : List Pair) → depth ≢ 0 → are_short depth pairs ≡ list_all (pair_is_short (are_short (depth - 1))) pairs
unfolding are_short
one_deep zero pairs n = absurd (n refl)
one_deep (suc d) pairs n = ap (λ (y : ℕ). list_all (pair_is_short (are_short y)) pairs) (let e : d ≡ suc d - 1 = omega arith in e)

-- a test that fails at the first of what is left
pub all_fails : {A : Type 0} (f : A → Bool) (xs rest : List A) (x : A) → xs ≡ x ∷ rest → f x ≡ false → list_all f xs ≡ false
all_fails f xs rest x p e = ap (list_all f) p ∙ ap (λ (b : Bool). b && list_all f rest) e
