-- Numbers in a queue, and the flags beside them.
use Rattle.std.proofs.Common.{◌≡◌, ℕ, ◌+◌, ◌<◌, ◌≤◌, List, [], ◌∷◌, ◌++◌, length, get_or, set, Bool, true, false, if◌then◌else◌, refl, ap, arith, suc, zero, get_or-set_same, get_or-set_other}
use Rattle.std.proofs.lemmas.Bool.Decides.{nat_tests}
use Rattle.std.proofs.lemmas.List.Sums.{sum_by-set, sum_by-cons}
use Rattle.std.specs.Prelude.{◌==◌, sum_by, replicate}
use Rattle.mio_net.specs.Turns.{stands_in}
use Rattle.mio_net.specs.QueueView.{spare, IsOnce}

stands_in-append : (n m : ℕ) (ns : List ℕ) → stands_in n (ns ++ m ∷ []) ≡ (if stands_in n ns then true else m == n)
stands_in-append n m [] = grind (arith, nat_tests)
stands_in-append n m (x ∷ ns) = grind (arith, nat_tests, stands_in-append n m ns)

-- a flag is set where its number joins
pub flag_joins : (flags : List Bool) (ns : List ℕ) (n m : ℕ) → m < length flags → get_or flags n false ≡ stands_in n ns → get_or (set flags m true) n false ≡ stands_in n (ns ++ m ∷ [])
flag_joins flags ns n m below same = grind (arith, nat_tests, stands_in-append n m ns, get_or-set_same flags m true false below, get_or-set_other flags m n true false)

-- a flag is taken away where its number leaves
pub flag_leaves : (flags : List Bool) (ns : List ℕ) (n m : ℕ) → m < length flags → get_or flags n false ≡ stands_in n (m ∷ ns) → stands_in m ns ≡ false → get_or (set flags m false) n false ≡ stands_in n ns
flag_leaves flags ns n m below same once = grind (arith, nat_tests, get_or-set_same flags m false false below, get_or-set_other flags m n false false)

pub once_joins : (ns : List ℕ) (m : ℕ) → IsOnce ns → stands_in m ns ≡ false → IsOnce (ns ++ m ∷ [])
once_joins [] m once new = (refl, tt)
once_joins (x ∷ ns) m once new = (grind (arith, nat_tests, stands_in-append x m ns, once.0, new), once_joins ns m once.1 (grind (arith, nat_tests, new)))

pub below_flag : (flags : List Bool) (n : ℕ) → get_or flags n false ≡ true → n < length flags
below_flag [] n is = absurd (cc (is))
below_flag (flag ∷ flags) zero is = omega arith
below_flag (flag ∷ flags) (suc n) is = omega (arith, below_flag flags n is)

pub first_stands : (n : ℕ) (ns : List ℕ) → stands_in n (n ∷ ns) ≡ true
first_stands n ns = grind (arith, nat_tests)

-- one place less is spare where a number joins, and at most one more where it leaves
pub spare_joins : (flags : List Bool) (n : ℕ) → n < length flags → get_or flags n false ≡ false → sum_by spare (set flags n true) + 1 ≡ sum_by spare flags
spare_joins flags n below is = omega (arith, sum_by-set spare flags n true false below, ap spare is)

pub spare_leaves : (flags : List Bool) (n : ℕ) → n < length flags → sum_by spare (set flags n false) ≤ sum_by spare flags + 1
spare_leaves flags n below = omega (arith, sum_by-set spare flags n false false below)

pub all_spare : (flags : List Bool) → sum_by spare flags ≤ length flags
all_spare [] = omega arith
all_spare (true ∷ flags) = omega (arith, sum_by-cons spare true flags, all_spare flags)
all_spare (false ∷ flags) = omega (arith, sum_by-cons spare false flags, all_spare flags)

pub none_set : (count n : ℕ) → get_or (replicate count false) n false ≡ false
none_set zero n = refl
none_set (suc count) zero = refl
none_set (suc count) (suc n) = none_set count n

pub nothing_long : (ns : List ℕ) → length ns ≡ 0 → ns ≡ []
nothing_long [] none = refl
nothing_long (n ∷ ns) none = absurd (omega (arith, none))
