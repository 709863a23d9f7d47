-- Steps over the lines of a head.
use Rattle.std.proofs.Common.{◌≡◌, ◌≢◌, ℕ, zero, suc, ◌+◌, ◌<◌, ◌≤◌, Bool, true, false, cond, ◌&&◌, eqb, ltb, List, [], ◌∷◌, length, drop, Some, refl, arith}
use Rattle.std.specs.Prelude.{option_map}
use Rattle.std.proofs.lemmas.Bool.{eq-eqb, ne_eqb, lt-ltb}
use Rattle.http_head.specs.Lines.{empty_line, after_blank, length_to_end, lines_to_end}

pub empty_line_within : (xs : List ℕ) → empty_line xs ≤ length xs
empty_line_within [] = omega arith
empty_line_within (a ∷ []) = by (eqb a 10) (eqb a 13)
  where
    by : (x y : Bool) → cond x 1 (cond y 0 0) ≤ 1
    by true y = omega arith
    by false true = omega arith
    by false false = omega arith
empty_line_within (a ∷ b ∷ rest) = by (eqb a 10) (eqb a 13) (eqb b 10)
  where
    by : (x y z : Bool) → cond x 1 (cond y (cond z 2 0) 0) ≤ suc (suc (length rest))
    by true y z = omega arith
    by false true true = omega arith
    by false true false = omega arith
    by false false z = omega arith

pub after_blank_step : (xs : List ℕ) → 0 < empty_line xs → after_blank (drop (empty_line xs) xs) ≡ after_blank xs
after_blank_step [] h = refl
after_blank_step (a ∷ []) h = by (eqb a 10) (eqb a 13) h
  where
    by : (x y : Bool) → 0 < cond x 1 (cond y 0 0) → after_blank (drop (cond x 1 (cond y 0 0)) (a ∷ [])) ≡ cond x [] (a ∷ [])
    by true y k = refl
    by false true k = absurd (omega arith)
    by false false k = absurd (omega arith)
after_blank_step (a ∷ b ∷ rest) h = by (eqb a 10) (eqb a 13) (eqb b 10) h
  where
    by : (x y z : Bool) → 0 < cond x 1 (cond y (cond z 2 0) 0) → after_blank (drop (cond x 1 (cond y (cond z 2 0) 0)) (a ∷ b ∷ rest)) ≡ cond x (after_blank (b ∷ rest)) (cond (y && z) (after_blank rest) (a ∷ b ∷ rest))
    by true y z k = refl
    by false true true k = refl
    by false true false k = absurd (omega arith)
    by false false z k = absurd (omega arith)

pub after_blank_stop : (xs : List ℕ) → empty_line xs ≡ 0 → after_blank xs ≡ xs
after_blank_stop [] h = refl
after_blank_stop (a ∷ []) h = by (eqb a 10) (eqb a 13) h
  where
    by : (x y : Bool) → cond x (suc zero) (cond y zero zero) ≡ zero → cond x [] (a ∷ []) ≡ a ∷ []
    by true y k = let bad : suc zero ≡ zero = k in absurd (omega arith)
    by false y k = refl
after_blank_stop (a ∷ b ∷ rest) h = by (eqb a 10) (eqb a 13) (eqb b 10) h
  where
    by : (x y z : Bool) → cond x (suc zero) (cond y (cond z (suc (suc zero)) zero) zero) ≡ zero → cond x (after_blank (b ∷ rest)) (cond (y && z) (after_blank rest) (a ∷ b ∷ rest)) ≡ a ∷ b ∷ rest
    by true y z k = let bad : suc zero ≡ zero = k in absurd (omega arith)
    by false true true k = let bad : suc (suc zero) ≡ zero = k in absurd (omega arith)
    by false true false k = refl
    by false false z k = refl

pub length_to_end_here : (b : ℕ) (xs : List ℕ) → b ≡ 10 → 0 < empty_line xs → length_to_end (b ∷ xs) ≡ Some (empty_line xs + 1)
length_to_end_here b xs e h = rw (eq-eqb b 10 e) (rw (lt-ltb 0 (empty_line xs) h) refl)

pub length_to_end_other : (b : ℕ) (xs : List ℕ) → b ≢ 10 → length_to_end (b ∷ xs) ≡ option_map suc (length_to_end xs)
length_to_end_other b xs n = rw (ne_eqb b 10 n) refl

pub length_to_end_line : (b : ℕ) (xs : List ℕ) → empty_line xs ≡ 0 → length_to_end (b ∷ xs) ≡ option_map suc (length_to_end xs)
length_to_end_line b xs h = by (eqb b 10) (empty_line xs) h
  where
    by : (x : Bool) (n : ℕ) → n ≡ 0 → cond (x && ltb 0 n) (Some (n + 1)) (option_map suc (length_to_end xs)) ≡ option_map suc (length_to_end xs)
    by true zero k = refl
    by true (suc n) k = absurd (omega arith)
    by false n k = refl

pub lines_to_end_last : (b : ℕ) (xs : List ℕ) → b ≡ 10 → 0 < empty_line xs → lines_to_end (b ∷ xs) ≡ 0
lines_to_end_last b xs e h = rw (eq-eqb b 10 e) (rw (lt-ltb 0 (empty_line xs) h) refl)

pub lines_to_end_line : (b : ℕ) (xs : List ℕ) → b ≡ 10 → empty_line xs ≡ 0 → lines_to_end (b ∷ xs) ≡ suc (lines_to_end xs)
lines_to_end_line b xs e h = rw (eq-eqb b 10 e) (rw h refl)

pub lines_to_end_other : (b : ℕ) (xs : List ℕ) → b ≢ 10 → lines_to_end (b ∷ xs) ≡ lines_to_end xs
lines_to_end_other b xs n = rw (ne_eqb b 10 n) refl
