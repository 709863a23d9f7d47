-- A pair that is taken out of its place.
use Rattle.std.proofs.Common.{◌≡◌, zero, suc, ℕ, ◌+◌, List, [], ◌∷◌, Option, Some, drop, ap, arith}
use Rattle.std.specs.Prelude.{slice_get, slice_set}

pub taken : {A : Type 0} (xs : List A) (at : ℕ) (x other : A) → slice_get xs at ≡ Some x → drop at xs ≡ x ∷ drop (at + 1) (slice_set xs at other)
taken [] at x other e = cc
taken (y ∷ xs) zero x other e = cc
taken (y ∷ xs) (suc at) x other e = let one : suc at + 1 ≡ suc (at + 1) = omega arith in rw one (taken xs at x other e)
