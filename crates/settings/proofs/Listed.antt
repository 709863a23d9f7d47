-- The entries of a gateway value, by their numbers.
use Rattle.std.proofs.Common.{◌≡◌, ℕ, ◌+◌, suc, zero, List, [], ◌∷◌, length, Some, refl, ◌∙◌, ap, arith}
use Rattle.std.specs.Prelude.{slice_get}
use Rattle.std.specs.Option.{option_map}
use Rattle.conf_value.specs.declared.value.Pair.{Pair}
use Rattle.settings.specs.Gateways.{host_list, lists_from}

pub lists_length : (first : ℕ) (pairs : List Pair) → length (lists_from first pairs) ≡ length pairs
lists_length first [] = refl
lists_length first (pair ∷ pairs) = ap suc (lists_length (first + 1) pairs)

pub list_at : (first : ℕ) (pairs : List Pair) (at : ℕ) → slice_get (lists_from first pairs) at ≡ option_map (host_list (first + at)) (slice_get pairs at)
list_at first [] at = refl
list_at first (pair ∷ pairs) zero = let e : first ≡ first + 0 = omega arith in ap (λ (n : ℕ). Some (host_list n pair)) e
list_at first (pair ∷ pairs) (suc at) = let e : first + 1 + at ≡ first + suc at = omega arith in list_at (first + 1) pairs at ∙ ap (λ (n : ℕ). option_map (host_list n) (slice_get pairs at)) e
