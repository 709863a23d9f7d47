-- Numbers: what `decimal` writes is read, and what is read is what `decimal` writes.
use Rattle.std.proofs.Common.{◌≡◌, ℕ, suc, zero, ◌+◌, ◌^◌, ◌<◌, ◌≤◌, Bool, true, false, ◌&&◌, List, [], ◌∷◌, ◌++◌, length, take, drop, get_or, refl, ap, sym, subst, ◌∙◌, arith, Option, Some, None, option_map, if◌then◌else◌, nat_lt, nat_le, take-append-drop, append-nil}
use Rattle.std.specs.Char.{digit_value, is_ascii_digit}
use Rattle.std.specs.List.{prefix_len, list_all}
use Rattle.std.specs.Fmt.{decimal}
use Rattle.std.specs.Str.Parse.{AllDigits, digits_value}
use Rattle.std.proofs.lemmas.Bool.Decides.{nat_tests}
use Rattle.std.proofs.lemmas.List.Folds.{prefix_len-append}
use Rattle.std.proofs.lemmas.Fmt.{decimal_is_IsNumeral, decimal-digits_value, first_decimal, decimal_digit}
use Rattle.std.proofs.lemmas.Str.Parse.{numerals_by_value, tells_digits}
use Rattle.std.proofs.Math.Seq.{take-append_seam, drop-append_seam}
use Rattle.lt_bytes.specs.declared.numbers.Number.{Number}
use Rattle.lt_bytes.specs.declared.numbers.Number.TheVariants.{Value, NotANumber, Overflow}
use Rattle.lt_bytes.specs.Numbers.{is_digit, fitting, number_of}
use Rattle.lt_script.specs.Fields.{digits_len, leads_zero, within, numeral_of, number_at}

-- a digit by its value

digit_same : (b : ℕ) → is_ascii_digit b ≡ nat_lt (digit_value b) 10
digit_same b = grind (arith, nat_tests)

digits_all : (digits : List ℕ) → AllDigits 10 digits → (list_all (is_digit 10) digits ≡ true) × (prefix_len is_ascii_digit digits ≡ length digits)
digits_all [] each = (refl, refl)
digits_all (b ∷ digits) each =
    let here : nat_lt (digit_value b) 10 ≡ true = grind (arith, nat_tests, each.0) in
    let rest = digits_all digits each.1 in
    (rw here rest.0, rw (digit_same b, here, rest.1) (omega arith))

front_by : (t : Bool) (b : ℕ) (bytes : List ℕ) → is_ascii_digit b ≡ t → AllDigits 10 (take (prefix_len is_ascii_digit bytes) bytes)
    → AllDigits 10 (take (prefix_len is_ascii_digit (b ∷ bytes)) (b ∷ bytes))
front_by true b bytes digit before =
    let k = prefix_len is_ascii_digit bytes in
    let e : 1 + k ≡ suc k = omega arith in
    let value : nat_lt (digit_value b) 10 ≡ true = sym (digit_same b) ∙ digit in
    let small : digit_value b < 10 = grind (arith, nat_tests, value) in
    rw (digit, e) (small, before)
front_by false b bytes digit before = rw digit tt

-- the front that is taken has digits alone
front_digits : (bytes : List ℕ) → AllDigits 10 (take (digits_len bytes) bytes)
front_digits [] = tt
front_digits (b ∷ bytes) = front_by (is_ascii_digit b) b bytes refl (front_digits bytes)

back_by : (t : Bool) (b : ℕ) (bytes : List ℕ) → is_ascii_digit b ≡ t → prefix_len is_ascii_digit (drop (prefix_len is_ascii_digit bytes) bytes) ≡ 0
    → prefix_len is_ascii_digit (drop (prefix_len is_ascii_digit (b ∷ bytes)) (b ∷ bytes)) ≡ 0
back_by true b bytes digit before =
    let k = prefix_len is_ascii_digit bytes in
    let e : 1 + k ≡ suc k = omega arith in
    rw (digit, e) before
back_by false b bytes digit before = rw digit (rw digit refl)

-- no digit follows it
back_digits : (bytes : List ℕ) → digits_len (drop (digits_len bytes) bytes) ≡ 0
back_digits [] = refl
back_digits (b ∷ bytes) = back_by (is_ascii_digit b) b bytes refl (back_digits bytes)

-- what is written is read

no_zero : (n : ℕ) (digits : List ℕ) → (0 < n → 48 < get_or digits 0 0) → (n ≡ 0 → length digits ≡ 1) → leads_zero digits ≡ false
no_zero zero digits first one = let e : length digits ≡ 1 = one refl in rw e refl
no_zero (suc n) digits first one = let e : 48 < get_or digits 0 0 = first (omega arith) in grind (arith, nat_tests, e)

leads_none : (n : ℕ) → n < 2 ^ 64 → leads_zero (decimal n) ≡ false
leads_none n small = no_zero n (decimal n) (λ some. first_decimal n some small) (λ none. ap (λ m. length (decimal m)) none ∙ ap length (decimal_digit 0 (omega arith)))

number_written : (n : ℕ) → n < 2 ^ 64 → number_of 10 (decimal n) ≡ Value n
number_written n small =
    let is = decimal_is_IsNumeral n small in
    let all = digits_all (decimal n) is.0.1 in
    let some : nat_lt 0 (length (decimal n)) ≡ true = grind (arith, nat_tests, is.0.0) in
    let fits : nat_lt n (2 ^ 64) ≡ true = grind (arith, nat_tests, small) in
    rw (some, all.0, is.1, fits) refl

numeral_again : (least most n : ℕ) → least ≤ n → n ≤ most → most < 2 ^ 64 → numeral_of least most (decimal n) ≡ Some n
numeral_again least most n low high small =
    let fits : n < 2 ^ 64 = omega arith in
    let above : nat_le least n ≡ true = grind (arith, nat_tests, low) in
    let below : nat_le n most ≡ true = grind (arith, nat_tests, high) in
    rw (leads_none n fits, number_written n fits, above, below) refl

written_len : (n : ℕ) (rest : List ℕ) → n < 2 ^ 64 → digits_len rest ≡ 0 → digits_len (decimal n ++ rest) ≡ length (decimal n)
written_len n rest small stops =
    let all = digits_all (decimal n) (decimal_is_IsNumeral n small).0.1 in
    grind (arith, nat_tests, prefix_len-append is_ascii_digit (decimal n) rest, all.1)

pub number_again : (least most n : ℕ) (rest : List ℕ) → least ≤ n → n ≤ most → most < 2 ^ 64 → digits_len rest ≡ 0 → number_at least most (decimal n ++ rest) ≡ Some (n, rest)
unfolding number_at
number_again least most n rest low high small stops =
    rw (written_len n rest (omega arith) stops, take-append_seam (decimal n) rest, drop-append_seam (decimal n) rest, numeral_again least most n low high small) refl

pub last_number : (least most n : ℕ) → least ≤ n → n ≤ most → most < 2 ^ 64 → number_at least most (decimal n) ≡ Some (n, [])
last_number least most n low high small = ap (number_at least most) (sym (append-nil (decimal n))) ∙ number_again least most n [] low high small refl

-- what is read is what is written

within_takes : (least most n : ℕ) (number : Number) → within least most number ≡ Some n → (number ≡ Value n) × (least ≤ n) × (n ≤ most)
within_takes least most n NotANumber some = absurd (cc some)
within_takes least most n Overflow some = absurd (cc some)
within_takes least most n (Value m) some = within_by (nat_le least m) (nat_le m most) m refl refl some
  where
    within_by : (low high : Bool) (m : ℕ) → nat_le least m ≡ low → nat_le m most ≡ high → (if low && high then Some m else None) ≡ Some n → (Value m ≡ Value n) × (least ≤ n) × (n ≤ most)
    within_by false high m l h some = absurd (cc some)
    within_by true false m l h some = absurd (cc some)
    within_by true true m l h some =
        let same : m ≡ n = cc some in
        let low : least ≤ m = grind (arith, nat_tests, l) in
        let high : m ≤ most = grind (arith, nat_tests, h) in
        (ap (λ v. Value v) same, omega (arith, same), omega (arith, same))

fitting_is : (t : Bool) (v n : ℕ) → nat_lt v (2 ^ 64) ≡ t → (if t then Value v else Overflow) ≡ Value n → (v ≡ n) × (v < 2 ^ 64)
fitting_is true v n test is = (cc is, grind (arith, nat_tests, test))
fitting_is false v n test is = absurd (cc is)

number_is : (some each : Bool) (digits : List ℕ) (n : ℕ) → nat_lt 0 (length digits) ≡ some → (if some && each then fitting (digits_value 10 digits) else NotANumber) ≡ Value n
    → (0 < length digits) × (digits_value 10 digits ≡ n) × (n < 2 ^ 64)
number_is false each digits n test is = absurd (cc is)
number_is true false digits n test is = absurd (cc is)
number_is true true digits n test is =
    let f = fitting_is (nat_lt (digits_value 10 digits) (2 ^ 64)) (digits_value 10 digits) n refl is in
    (grind (arith, nat_tests, test), f.0, omega (arith, f.0, f.1))

leads_by : (t : Bool) (o : Option ℕ) (n : ℕ) → (if t then None else o) ≡ Some n → (t ≡ false) × (o ≡ Some n)
leads_by true o n some = absurd (cc some)
leads_by false o n some = (refl, some)

numeral_takes : (least most n : ℕ) (digits : List ℕ) → AllDigits 10 digits → numeral_of least most digits ≡ Some n → (digits ≡ decimal n) × (least ≤ n) × (n ≤ most)
numeral_takes least most n digits each some =
    let l = leads_by (leads_zero digits) _ n some in
    let w = within_takes least most n (number_of 10 digits) l.1 in
    let v = number_is (nat_lt 0 (length digits)) (list_all (is_digit 10) digits) digits n refl w.0 in
    let alone : get_or digits 0 0 ≡ 48 → length digits ≡ 1 = λ zero. grind (arith, nat_tests, l.0, zero, v.0) in
    let small : digits_value 10 digits < 2 ^ 64 = omega (arith, v.1, v.2) in
    (sym (decimal-digits_value (numerals_by_value (AllDigits 10) tells_digits) digits each v.0 alone small) ∙ ap decimal v.1, w.1, w.2)

pub mapped : {A B : Type 0} (f : A → B) (o : Option A) (y : B) → option_map f o ≡ Some y → (x : A) × (o ≡ Some x) × (f x ≡ y)
mapped f None y some = absurd (cc some)
mapped f (Some x) y some = (x, refl, cc some)

pub record ReadsNumber (least most : ℕ) (bytes : List ℕ) (x : ℕ × List ℕ) : Type 0 where
  pub spelled : bytes ≡ decimal x.0 ++ x.1
  pub low : least ≤ x.0
  pub high : x.0 ≤ most

pub number_takes : (least most : ℕ) (bytes : List ℕ) (x : ℕ × List ℕ) → number_at least most bytes ≡ Some x → ReadsNumber least most bytes x
unfolding number_at
number_takes least most bytes x some =
    let k = digits_len bytes in
    let m = mapped (λ (n : ℕ). (n, drop k bytes)) (numeral_of least most (take k bytes)) x some in
    let t = numeral_takes least most m.0 (take k bytes) (front_digits bytes) m.1 in
    subst (λ (y : ℕ × List ℕ). ReadsNumber least most bytes y) m.2
    (record { spelled = sym (take-append-drop k bytes) ∙ ap (λ f. f ++ drop k bytes) t.0; low = t.1; high = t.2 })
