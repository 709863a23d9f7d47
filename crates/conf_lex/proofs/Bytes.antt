-- Which bytes are of a class, and where a UTF-8 text may be cut.
use Rattle.std.proofs.Common.{◌≡◌, ◌≢◌, ℕ, ◌<◌, ◌≤◌, Bool, true, false, ◌&&◌, ◌||◌, ◌==◌, nat_le, List, ◌∷◌, ◌++◌, length, refl, ap, subst, ⊎_elim, lit<, arith, length-append}
use Rattle.std.specs.Char.{digit_value}
use Rattle.std.specs.Str.{IsUtf8}
use Rattle.std.proofs.lemmas.Bool.{eqb-true, ne_eqb, lt-ltb, le-ltb, le-leb, lt-leb, leb-true, cases_lt}
use Rattle.std.proofs.lemmas.Str.{IsUtf8-take, IsUtf8-drop, IsCharBoundary-before_ascii, IsCharBoundary-after_ascii}
use Rattle.std.proofs.Math.Seq.{take-append_seam, drop-append_seam, get_or-append_seam}
use Rattle.conf_lex.specs.declared.class.Class.{Class}
use Rattle.conf_lex.specs.declared.class.Class.TheVariants as c
use Rattle.conf_lex.specs.Class.{class}
use Rattle.conf_lex.specs.Tokens.{Text}
use Rattle.conf_lex.proofs.Classes.{skip, hit}

no : (b k : ℕ) → 128 ≤ b → k < 128 → (b == k) ≡ false
no b k h lt = ne_eqb b k (λ e. omega (arith, e))

-- a byte from 128 on is of no class of its own
pub high_other : (b : ℕ) → 128 ≤ b → class b ≡ c.Other
high_other b h = rw (
  no b 10 h (lit< tt),
  no b 32 h (lit< tt),
  no b 9 h (lit< tt),
  no b 13 h (lit< tt),
  no b 35 h (lit< tt),
  le-leb 97 b (omega arith),
  lt-leb b 122 (omega arith),
  le-leb 65 b (omega arith),
  lt-leb b 90 (omega arith),
  le-leb 48 b (omega arith),
  lt-leb b 57 (omega arith),
  no b 95 h (lit< tt),
  no b 45 h (lit< tt),
  no b 46 h (lit< tt),
  no b 34 h (lit< tt),
  no b 92 h (lit< tt),
  no b 61 h (lit< tt),
  no b 43 h (lit< tt),
  no b 33 h (lit< tt),
  no b 62 h (lit< tt),
  no b 126 h (lit< tt),
  no b 94 h (lit< tt),
  no b 36 h (lit< tt),
  no b 44 h (lit< tt),
  no b 40 h (lit< tt),
  no b 41 h (lit< tt),
  no b 123 h (lit< tt),
  no b 125 h (lit< tt),
  no b 91 h (lit< tt),
  no b 93 h (lit< tt),
) refl

pub low_class : (b : ℕ) → class b ≢ c.Other → b < 128
low_class b n = ⊎_elim (λ lt. lt) (λ h. absurd (n (high_other b h))) (cases_lt b 128)

pub low_sort : (sort : Class → Bool) → sort c.Other ≡ false → (b : ℕ) → sort (class b) ≡ true → b < 128
low_sort sort other b e = low_class b (λ z. let q = ap sort z in absurd cc)

-- ---- the bytes of single classes

pub feed_10 : (b : ℕ) → class b ≡ c.Feed → b ≡ 10
feed_10 b e = eqb-true b 10 (hit (b == 10) c.Feed _ c.Feed e (λ h.
    let h0 = skip (b == 32 || b == 9 || b == 13) c.Blank _ c.Feed (λ z. cc) h in let h1 = skip (b == 35) c.Hash _ c.Feed (λ z. cc) h0 in let h2 = skip ((nat_le 97 b && nat_le b 122) || (nat_le 65 b && nat_le b 90)) c.Letter _ c.Feed (λ z. cc) h1 in
    let h3 = skip (nat_le 48 b && nat_le b 57) c.Digit _ c.Feed (λ z. cc) h2 in let h4 = skip (b == 95 || b == 45 || b == 46) c.Joint _ c.Feed (λ z. cc) h3 in let h5 = skip (b == 34) c.Quote _ c.Feed (λ z. cc) h4 in
    let h6 = skip (b == 92) c.Backslash _ c.Feed (λ z. cc) h5 in let h7 = skip (b == 61) c.Equal _ c.Feed (λ z. cc) h6 in let h8 = skip (b == 43) c.Plus _ c.Feed (λ z. cc) h7 in
    let h9 = skip (b == 33) c.Not _ c.Feed (λ z. cc) h8 in let h10 = skip (b == 62) c.Greater _ c.Feed (λ z. cc) h9 in let h11 = skip (b == 126) c.Tilde _ c.Feed (λ z. cc) h10 in
    let h12 = skip (b == 94) c.Caret _ c.Feed (λ z. cc) h11 in let h13 = skip (b == 36) c.Dollar _ c.Feed (λ z. cc) h12 in let h14 = skip (b == 44) (c.Single 4) _ c.Feed (λ z. cc) h13 in
    let h15 = skip (b == 40) (c.Single 5) _ c.Feed (λ z. cc) h14 in let h16 = skip (b == 41) (c.Single 6) _ c.Feed (λ z. cc) h15 in let h17 = skip (b == 123) (c.Single 7) _ c.Feed (λ z. cc) h16 in
    let h18 = skip (b == 125) (c.Single 8) _ c.Feed (λ z. cc) h17 in let h19 = skip (b == 91) (c.Single 9) _ c.Feed (λ z. cc) h18 in let h20 = skip (b == 93) (c.Single 10) c.Other c.Feed (λ z. cc) h19 in
    cc))

pub quote_34 : (b : ℕ) → class b ≡ c.Quote → b ≡ 34
quote_34 b e = eqb-true b 34 (hit (b == 34) c.Quote _ c.Quote
    (skip _ c.Joint _ c.Quote (λ z. cc) (skip _ c.Digit _ c.Quote (λ z. cc) (skip _ c.Letter _ c.Quote (λ z. cc) (skip _ c.Hash _ c.Quote (λ z. cc) (skip _ c.Blank _ c.Quote (λ z. cc) (skip _ c.Feed _ c.Quote (λ z. cc) e))))))
    (λ h. let h1 = skip (b == 92) c.Backslash _ c.Quote (λ z. cc) h in let h2 = skip (b == 61) c.Equal _ c.Quote (λ z. cc) h1 in let h3 = skip (b == 43) c.Plus _ c.Quote (λ z. cc) h2 in
    let h4 = skip (b == 33) c.Not _ c.Quote (λ z. cc) h3 in let h5 = skip (b == 62) c.Greater _ c.Quote (λ z. cc) h4 in let h6 = skip (b == 126) c.Tilde _ c.Quote (λ z. cc) h5 in
    let h7 = skip (b == 94) c.Caret _ c.Quote (λ z. cc) h6 in let h8 = skip (b == 36) c.Dollar _ c.Quote (λ z. cc) h7 in let h9 = skip (b == 44) (c.Single 4) _ c.Quote (λ z. cc) h8 in
    let h10 = skip (b == 40) (c.Single 5) _ c.Quote (λ z. cc) h9 in let h11 = skip (b == 41) (c.Single 6) _ c.Quote (λ z. cc) h10 in let h12 = skip (b == 123) (c.Single 7) _ c.Quote (λ z. cc) h11 in
    let h13 = skip (b == 125) (c.Single 8) _ c.Quote (λ z. cc) h12 in let h14 = skip (b == 91) (c.Single 9) _ c.Quote (λ z. cc) h13 in let h15 = skip (b == 93) (c.Single 10) c.Other c.Quote (λ z. cc) h14 in cc))

pub backslash_92 : (b : ℕ) → class b ≡ c.Backslash → b ≡ 92
backslash_92 b e = eqb-true b 92 (hit (b == 92) c.Backslash _ c.Backslash
    (skip _ c.Quote _ c.Backslash (λ z. cc) (skip _ c.Joint _ c.Backslash (λ z. cc) (skip _ c.Digit _ c.Backslash (λ z. cc) (skip _ c.Letter _ c.Backslash (λ z. cc) (skip _ c.Hash _ c.Backslash (λ z. cc) (skip _ c.Blank _ c.Backslash (λ z. cc) (skip _ c.Feed _ c.Backslash (λ z. cc) e)))))))
    (λ h. let h2 = skip (b == 61) c.Equal _ c.Backslash (λ z. cc) h in let h3 = skip (b == 43) c.Plus _ c.Backslash (λ z. cc) h2 in
    let h4 = skip (b == 33) c.Not _ c.Backslash (λ z. cc) h3 in let h5 = skip (b == 62) c.Greater _ c.Backslash (λ z. cc) h4 in let h6 = skip (b == 126) c.Tilde _ c.Backslash (λ z. cc) h5 in
    let h7 = skip (b == 94) c.Caret _ c.Backslash (λ z. cc) h6 in let h8 = skip (b == 36) c.Dollar _ c.Backslash (λ z. cc) h7 in let h9 = skip (b == 44) (c.Single 4) _ c.Backslash (λ z. cc) h8 in
    let h10 = skip (b == 40) (c.Single 5) _ c.Backslash (λ z. cc) h9 in let h11 = skip (b == 41) (c.Single 6) _ c.Backslash (λ z. cc) h10 in let h12 = skip (b == 123) (c.Single 7) _ c.Backslash (λ z. cc) h11 in
    let h13 = skip (b == 125) (c.Single 8) _ c.Backslash (λ z. cc) h12 in let h14 = skip (b == 91) (c.Single 9) _ c.Backslash (λ z. cc) h13 in let h15 = skip (b == 93) (c.Single 10) c.Other c.Backslash (λ z. cc) h14 in cc))

both : (x y : Bool) → x && y ≡ true → (x ≡ true) × (y ≡ true)
both true true e = (refl, refl)
both true false e = cc
both false y e = cc

digit_tests : (b : ℕ) → class b ≡ c.Digit → (nat_le 48 b && nat_le b 57) ≡ true
digit_tests b e = hit (nat_le 48 b && nat_le b 57) c.Digit _ c.Digit
    (skip _ c.Letter _ c.Digit (λ z. cc) (skip _ c.Hash _ c.Digit (λ z. cc) (skip _ c.Blank _ c.Digit (λ z. cc) (skip _ c.Feed _ c.Digit (λ z. cc) e))))
    (λ h. let g0 = skip (b == 95 || b == 45 || b == 46) c.Joint _ c.Digit (λ z. cc) h in let g1 = skip (b == 34) c.Quote _ c.Digit (λ z. cc) g0 in let h1 = skip (b == 92) c.Backslash _ c.Digit (λ z. cc) g1 in
    let h2 = skip (b == 61) c.Equal _ c.Digit (λ z. cc) h1 in let h3 = skip (b == 43) c.Plus _ c.Digit (λ z. cc) h2 in
    let h4 = skip (b == 33) c.Not _ c.Digit (λ z. cc) h3 in let h5 = skip (b == 62) c.Greater _ c.Digit (λ z. cc) h4 in let h6 = skip (b == 126) c.Tilde _ c.Digit (λ z. cc) h5 in
    let h7 = skip (b == 94) c.Caret _ c.Digit (λ z. cc) h6 in let h8 = skip (b == 36) c.Dollar _ c.Digit (λ z. cc) h7 in let h9 = skip (b == 44) (c.Single 4) _ c.Digit (λ z. cc) h8 in
    let h10 = skip (b == 40) (c.Single 5) _ c.Digit (λ z. cc) h9 in let h11 = skip (b == 41) (c.Single 6) _ c.Digit (λ z. cc) h10 in let h12 = skip (b == 123) (c.Single 7) _ c.Digit (λ z. cc) h11 in
    let h13 = skip (b == 125) (c.Single 8) _ c.Digit (λ z. cc) h12 in let h14 = skip (b == 91) (c.Single 9) _ c.Digit (λ z. cc) h13 in let h15 = skip (b == 93) (c.Single 10) c.Other c.Digit (λ z. cc) h14 in cc)

pub digit_range : (b : ℕ) → class b ≡ c.Digit → (48 ≤ b) × (b ≤ 57)
digit_range b e = let q = both (nat_le 48 b) (nat_le b 57) (digit_tests b e) in (leb-true 48 b q.0, leb-true b 57 q.1)

-- what a digit is worth
pub digit_small : (b : ℕ) → class b ≡ c.Digit → digit_value b < 10
digit_small b e = let q = digit_range b e in rw (le-ltb b 48 q.0, lt-ltb b 58 (omega (arith, q.1))) (omega (arith, q.0, q.1))

pub digit_class : (b : ℕ) → 48 ≤ b → b ≤ 57 → class b ≡ c.Digit
digit_class b low high = rw (
  ne_eqb b 10 (λ e. omega (arith, e)),
  ne_eqb b 32 (λ e. omega (arith, e)),
  ne_eqb b 9 (λ e. omega (arith, e)),
  ne_eqb b 13 (λ e. omega (arith, e)),
  ne_eqb b 35 (λ e. omega (arith, e)),
  lt-leb 97 b (omega arith),
  lt-leb 65 b (omega arith),
  le-leb 48 b low,
  le-leb b 57 high,
) refl

-- ---- cuts

pub tail_utf8 : (b : ℕ) (bs : List ℕ) → b < 128 → IsUtf8 (b ∷ bs) → IsUtf8 bs
tail_utf8 b bs lt u = IsUtf8-drop (b ∷ bs) 1 u (IsCharBoundary-after_ascii (b ∷ bs) 0 u (omega arith) lt)

pub front_utf8 : (xs : Text) (b : ℕ) (ys : List ℕ) → b < 128 → IsUtf8 (xs ++ (b ∷ ys)) → IsUtf8 xs
front_utf8 xs b ys lt u = subst IsUtf8 (take-append_seam xs (b ∷ ys))
    (IsUtf8-take (xs ++ (b ∷ ys)) (length xs) u (IsCharBoundary-before_ascii (xs ++ (b ∷ ys)) (length xs) (omega (arith, length-append xs (b ∷ ys))) (rw (get_or-append_seam xs b ys 0) lt)))

pub back_utf8 : (xs : Text) (b : ℕ) (ys : List ℕ) → b < 128 → IsUtf8 (xs ++ (b ∷ ys)) → IsUtf8 (b ∷ ys)
back_utf8 xs b ys lt u = subst IsUtf8 (drop-append_seam xs (b ∷ ys))
    (IsUtf8-drop (xs ++ (b ∷ ys)) (length xs) u (IsCharBoundary-before_ascii (xs ++ (b ∷ ys)) (length xs) (omega (arith, length-append xs (b ∷ ys))) (rw (get_or-append_seam xs b ys 0) lt)))
