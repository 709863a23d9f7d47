-- Items of lists by their places.
use Rattle.std.proofs.Common.{◌≡◌, ◌≢◌, ℕ, zero, suc, ◌<◌, List, [], ◌∷◌, ◌++◌, length, slice_get, slice_set, Some, refl, ap, arith}

-- an item of the first of two lists
pub get_first : {A : Type 0} (xs ys : List A) (n : ℕ) → n < length xs → slice_get (xs ++ ys) n ≡ slice_get xs n
get_first [] ys n p = absurd (omega (arith, p))
get_first (x ∷ xs) ys zero p = refl
get_first (x ∷ xs) ys (suc n) p = get_first xs ys n (omega (arith, p))

-- the item behind the first of two lists
pub get_next : {A : Type 0} (xs ys : List A) (y : A) (n : ℕ) → length xs ≡ n → slice_get (xs ++ y ∷ ys) n ≡ Some y
get_next [] ys y zero p = refl
get_next [] ys y (suc n) p = absurd (omega (arith, p))
get_next (x ∷ xs) ys y zero p = absurd (omega (arith, p))
get_next (x ∷ xs) ys y (suc n) p = get_next xs ys y n (omega (arith, p))

-- there is an item at a place within
pub record There {A : Type 0} (xs : List A) (n : ℕ) : Type 0 where
  pub item : A
  pub is : slice_get xs n ≡ Some item

pub there : {A : Type 0} (xs : List A) (n : ℕ) → n < length xs → There xs n
there [] n p = absurd (omega (arith, p))
there (x ∷ xs) zero p = record { item = x; is = refl }
there (x ∷ xs) (suc n) p = let t = there xs n (omega (arith, p)) in record { item = t.item; is = t.is }

-- what was put at a place
pub put_there : {A : Type 0} (xs : List A) (n : ℕ) (y : A) → n < length xs → slice_get (slice_set xs n y) n ≡ Some y
put_there [] n y p = absurd (omega (arith, p))
put_there (x ∷ xs) zero y p = refl
put_there (x ∷ xs) (suc n) y p = put_there xs n y (omega (arith, p))

-- what stands at another place
pub put_elsewhere : {A : Type 0} (xs : List A) (n m : ℕ) (y : A) → m ≢ n → slice_get (slice_set xs n y) m ≡ slice_get xs m
put_elsewhere [] n m y p = refl
put_elsewhere (x ∷ xs) zero zero y p = absurd (p refl)
put_elsewhere (x ∷ xs) zero (suc m) y p = refl
put_elsewhere (x ∷ xs) (suc n) zero y p = refl
put_elsewhere (x ∷ xs) (suc n) (suc m) y p = put_elsewhere xs n m y (λ e. p (ap suc e))
