-- How many lists of hosts there are.
use Rattle.std.proofs.Common.{◌≡◌, ℕ, ◌+◌, ◌-◌, ◌<◌, ◌≤◌, ◌^◌, suc, zero, Bool, true, false, cond, List, [], ◌∷◌, take, None, Some, refl, ap, arith}
use Rattle.std.specs.Prelude.{nat_le, nat_lt}
use Rattle.std.specs.Option.{is_some}
use Rattle.std.proofs.lemmas.Bool.Decides.{nat_tests}
use Rattle.conf_value.specs.declared.block.Setting.{Setting}
use Rattle.settings.specs.Indexed.{lists_of, less}

-- more than there may be leaves none
pub less_none : (left taken : ℕ) → left < taken → less left taken ≡ None
less_none left taken low = by (nat_le taken left) refl
  where
    by : (t : Bool) → nat_le taken left ≡ t → cond t (Some (left - taken)) None ≡ None
    by true is = absurd (grind (arith, nat_tests, is, low))
    by false is = refl

-- what is taken one after another
pub less_less : (left a b : ℕ) → a ≤ left → less left (a + b) ≡ less (left - a) b
less_less left a b low = by (nat_le (a + b) left) (nat_le b (left - a)) refl refl
  where
    by : (s t : Bool) → nat_le (a + b) left ≡ s → nat_le b (left - a) ≡ t → cond s (Some (left - (a + b))) None ≡ cond t (Some (left - a - b)) None
    by true true is js = ap (λ (n : ℕ). Some n) (omega arith)
    by false false is js = refl
    by true false is js = absurd (grind (arith, nat_tests, is, js, low))
    by false true is js = absurd (grind (arith, nat_tests, is, js, low))

-- few are left exactly where there are few
pub few_left : (n : ℕ) → is_some (less 4294967295 n) ≡ nat_lt n (2 ^ 32)
few_left n = by (nat_le n 4294967295) (nat_lt n (2 ^ 32)) refl refl
  where
    by : (s t : Bool) → nat_le n 4294967295 ≡ s → nat_lt n (2 ^ 32) ≡ t → is_some (cond s (Some (4294967295 - n)) None) ≡ t
    by true true is js = refl
    by false false is js = refl
    by true false is js = absurd (grind (arith, nat_tests, is, js))
    by false true is js = absurd (grind (arith, nat_tests, is, js))

-- no part has more than the whole
pub taken_within : (n : ℕ) (settings : List Setting) → lists_of (take n settings) ≤ lists_of settings
taken_within zero settings = omega arith
taken_within (suc n) [] = omega arith
taken_within (suc n) (s ∷ settings) = let h = taken_within n settings in omega (arith, h)
