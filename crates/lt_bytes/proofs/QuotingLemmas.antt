-- A quoted byte is read back, and a quoted text has one reading.
use Rattle.std.proofs.Common.{◌≡◌, ℕ, ◌+◌, ◌*◌, ◌/◌, ◌%◌, ◌<◌, Bool, true, false, ◌||◌, ◌==◌, List, [], ◌∷◌, ◌++◌, Some, if◌then◌else◌, All, refl, ap, ap₂, sym, ◌∙◌, append_assoc, arith}
use Rattle.std.proofs.lemmas.List.Elements.{All-tail}
use Rattle.std.proofs.lemmas.Bool.Decides.{nat_tests}
use Rattle.std.specs.Char.{digit_char, digit_value}
use Rattle.lt_bytes.specs.Quoting.{quoted_byte, quoted, byte_unquoted, byte_of_hex, is_hex_digit, is_visible}

-- a digit that is written is read
pub digit_again : (d : ℕ) → d < 16 → (is_hex_digit (digit_char d) ≡ true) × (digit_value (digit_char d) ≡ d)
digit_again d small = (grind (arith, nat_tests), grind (arith, nat_tests))

-- two digits that are written are read
hex_again : (b : ℕ) (rest : List ℕ) → b < 256 → byte_of_hex (digit_char (b / 16) ∷ digit_char (b % 16) ∷ rest) ≡ Some (b, rest)
hex_again b rest small =
    let high = digit_again (b / 16) (omega arith) in
    let low = digit_again (b % 16) (omega arith) in
    let whole : b / 16 * 16 + b % 16 ≡ b = omega arith in
    rw (high.0, low.0, high.1, low.1, whole) refl

-- by the tests that choose the spelling
pub byte_again : (b : ℕ) (rest : List ℕ) → b < 256 → byte_unquoted (quoted_byte b ++ rest) ≡ Some (b, rest)
byte_again b rest small = by (b == 13) (b == 10) (b == 34) (b == 92) (is_visible b) refl refl refl refl refl
  where
    by : (cr lf quote slash visible : Bool) → (b == 13) ≡ cr → (b == 10) ≡ lf → (b == 34) ≡ quote → (b == 92) ≡ slash → is_visible b ≡ visible
        → byte_unquoted ((if cr then 92 ∷ 114 ∷ [] else (if lf then 92 ∷ 110 ∷ [] else (if quote || slash then 92 ∷ b ∷ []
        else (if visible then b ∷ [] else 92 ∷ 120 ∷ digit_char (b / 16) ∷ digit_char (b % 16) ∷ [])))) ++ rest) ≡ Some (b, rest)
    by true lf quote slash visible c l q s v = let e : b ≡ 13 = grind (arith, nat_tests) in rw e refl
    by false true quote slash visible c l q s v = let e : b ≡ 10 = grind (arith, nat_tests) in rw e refl
    by false false true slash visible c l q s v = let e : b ≡ 34 = grind (arith, nat_tests) in rw e refl
    by false false false true visible c l q s v = let e : b ≡ 92 = grind (arith, nat_tests) in rw e refl
    by false false false false true c l q s v = rw (s, q, v) refl
    by false false false false false c l q s v = hex_again b rest small

-- a quoted text begins with its first byte
begins : (b : ℕ) (bytes more : List ℕ) → b < 256 → byte_unquoted (quoted (b ∷ bytes) ++ more) ≡ Some (b, quoted bytes ++ more)
begins b bytes more small = ap byte_unquoted (append_assoc (quoted_byte b) (quoted bytes) more) ∙ byte_again b (quoted bytes ++ more) small

-- a quoted text ends at the first quote that is no byte of it, and is read in one way
pub text_again : (xs ys r s : List ℕ) → All (λ b. b < 256) xs → All (λ b. b < 256) ys → quoted xs ++ 34 ∷ r ≡ quoted ys ++ 34 ∷ s → (xs ≡ ys) × (r ≡ s)
text_again [] [] r s a b e = (refl, cc e)
text_again [] (y ∷ ys) r s a b e =
    let read : byte_unquoted (34 ∷ r) ≡ Some (y, quoted ys ++ 34 ∷ s) = ap byte_unquoted e ∙ begins y ys (34 ∷ s) (b 0 0 (omega arith)) in
    absurd (cc read)
text_again (x ∷ xs) [] r s a b e =
    let read : byte_unquoted (34 ∷ s) ≡ Some (x, quoted xs ++ 34 ∷ r) = ap byte_unquoted (sym e) ∙ begins x xs (34 ∷ r) (a 0 0 (omega arith)) in
    absurd (cc read)
text_again (x ∷ xs) (y ∷ ys) r s a b e =
    let read : Some (x, quoted xs ++ 34 ∷ r) ≡ Some (y, quoted ys ++ 34 ∷ s) =
    sym (begins x xs (34 ∷ r) (a 0 0 (omega arith))) ∙ ap byte_unquoted e ∙ begins y ys (34 ∷ s) (b 0 0 (omega arith)) in
    let pair : (x, quoted xs ++ 34 ∷ r) ≡ (y, quoted ys ++ 34 ∷ s) = cc read in
    let first : x ≡ y = ap (λ (p : ℕ × List ℕ). p.0) pair in
    let others = text_again xs ys r s (All-tail (λ b. b < 256) x xs a) (All-tail (λ b. b < 256) y ys b) (ap (λ (p : ℕ × List ℕ). p.1) pair) in
    (ap₂ (λ (h : ℕ) (t : List ℕ). h ∷ t) first others.0, others.1)
