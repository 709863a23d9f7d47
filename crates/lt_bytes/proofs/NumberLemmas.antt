-- Numbers that are read a digit at a time.
use Rattle.std.proofs.Common.{◌≡◌, ℕ, ◌+◌, ◌*◌, ◌<◌, ◌≤◌, min, true, ◌^◌, List, [], ◌∷◌, length, decimal, get_or, take, nat_lt, arith, refl}
use Rattle.std.proofs.Math.Nat.{le-mul_of_pos_right}
use Rattle.std.proofs.lemmas.Bool.Decides.{nat_tests}
use Rattle.std.specs.Char.{digit_value}
use Rattle.std.specs.List.{list_all}
use Rattle.std.specs.Str.Parse.{digits_value, AllDigits}
use Rattle.std.proofs.lemmas.Fmt.{decimal_is_IsNumeral}
use Rattle.std.proofs.lemmas.Int.Digits.{digits_value_more}
use Rattle.std.proofs.lemmas.List.Folds.{list_all_more}
use Rattle.lt_bytes.specs.Numbers.{is_digit, number_of}
use Rattle.lt_bytes.specs.declared.numbers.Number.TheVariants.{Value}

capped_by : (n digit most p q r : ℕ) → (n ≤ most → r ≡ p) → (most < n → r ≡ q) → most ≤ q → n ≤ p → min (r + digit) most ≡ min (p + digit) most
capped_by n digit most p q r below above a b = grind arith

-- capping before or after the next digit is the same
pub capped : (n base digit most : ℕ) → 1 ≤ base → min (min n most * base + digit) most ≡ min (n * base + digit) most
capped n base digit most some = capped_by n digit most (n * base) (most * base) (min n most * base)
    (λ le. let e : min n most ≡ n = omega arith in rw e refl) (λ lt. let e : min n most ≡ most = omega arith in rw e refl)
    (le-mul_of_pos_right most some) (le-mul_of_pos_right n some)

-- the number with a digit more
pub next_number : (base : ℕ) (bytes : List ℕ) (at digit value next : ℕ) → 1 ≤ base → at < length bytes → digit ≡ digit_value (get_or bytes at 0)
    → value ≡ min (digits_value base (take at bytes)) (2 ^ 64) → next ≡ min (value * base + digit) (2 ^ 64)
    → next ≡ min (digits_value base (take (at + 1) bytes)) (2 ^ 64)
next_number base bytes at digit value next some within is so_far more =
    rw (more, so_far, capped (digits_value base (take at bytes)) base digit (2 ^ 64) some, digits_value_more base bytes at within, is) refl

-- the digits with one more
pub next_digits : (base : ℕ) (bytes : List ℕ) (at : ℕ) → at < length bytes → digit_value (get_or bytes at 0) < base
    → list_all (is_digit base) (take at bytes) ≡ true → list_all (is_digit base) (take (at + 1) bytes) ≡ true
next_digits base bytes at within digit so_far =
    let one : nat_lt (digit_value (get_or bytes at 0)) base ≡ true = grind (arith, nat_tests) in
    rw (list_all_more (is_digit base) bytes at 0 within, so_far, one) refl

-- written digits are digits
list_all-digits : (ds : List ℕ) → AllDigits 10 ds → list_all (is_digit 10) ds ≡ true
list_all-digits [] h = refl
list_all-digits (d ∷ ds) h = let one : is_digit 10 d ≡ true = grind (arith, nat_tests) in rw (one, list_all-digits ds h.1) refl

-- a number that is written is read back
pub number_again : (n : ℕ) → n < 2 ^ 64 → number_of 10 (decimal n) ≡ Value n
number_again n small =
    let d = decimal_is_IsNumeral n small in
    let some : nat_lt 0 (length (decimal n)) ≡ true = grind (arith, nat_tests) in
    let fits : nat_lt n (2 ^ 64) ≡ true = grind (arith, nat_tests) in
    rw (some, list_all-digits (decimal n) d.0.1, d.1, fits) refl
