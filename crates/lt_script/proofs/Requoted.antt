-- A text that is quoted in some way may be quoted as it is printed, which is the shortest.
use Rattle.std.proofs.Common.{◌≡◌, ℕ, ◌+◌, ◌*◌, ◌/◌, ◌%◌, ◌<◌, ◌≤◌, Bool, true, false, ◌||◌, List, [], ◌∷◌, length, refl, subst, arith, length-append, ◌==◌, if◌then◌else◌, le_refl}
use Rattle.std.specs.Char.{digit_char}
use Rattle.std.proofs.lemmas.Bool.Decides.{nat_tests}
use Rattle.lt_bytes.specs.Quoting.{is_visible, quoted_byte, quoted}
use Rattle.lt_script.specs.Grammar.{IsPiece, Plainly, Return, Feed, Quote, Backslash, Hex, IsQuoted, Empty, More}
use Rattle.lt_script.proofs.Feeds.{feedless, both_feedless}

-- a byte, as it is printed

abbrev spelled_by : (cr lf quote slash visible : Bool) → ℕ → List ℕ
spelled_by cr lf quote slash visible b =
    if cr then 92 ∷ 114 ∷ [] else (if lf then 92 ∷ 110 ∷ [] else (if quote || slash then 92 ∷ b ∷ []
    else (if visible then b ∷ [] else 92 ∷ 120 ∷ digit_char (b / 16) ∷ digit_char (b % 16) ∷ [])))

piece_by : (cr lf quote slash visible : Bool) (b : ℕ) → b < 256 → (b == 13) ≡ cr → (b == 10) ≡ lf → (b == 34) ≡ quote → (b == 92) ≡ slash → is_visible b ≡ visible
    → IsPiece b (spelled_by cr lf quote slash visible b)
piece_by true lf quote slash visible b small c l q s v = let e : 13 ≡ b = grind (arith, nat_tests) in subst (λ (n : ℕ). IsPiece n (92 ∷ 114 ∷ [])) e Return
piece_by false true quote slash visible b small c l q s v = let e : 10 ≡ b = grind (arith, nat_tests) in subst (λ (n : ℕ). IsPiece n (92 ∷ 110 ∷ [])) e Feed
piece_by false false true slash visible b small c l q s v = let e : 34 ≡ b = grind (arith, nat_tests) in subst (λ (n : ℕ). IsPiece n (92 ∷ n ∷ [])) e Quote
piece_by false false false true visible b small c l q s v = let e : 92 ≡ b = grind (arith, nat_tests) in subst (λ (n : ℕ). IsPiece n (92 ∷ n ∷ [])) e Backslash
piece_by false false false false true b small c l q s v = Plainly b (grind (arith, nat_tests)) (grind (arith, nat_tests)) (grind (arith, nat_tests)) (grind (arith, nat_tests))
piece_by false false false false false b small c l q s v =
    let whole : b / 16 * 16 + b % 16 ≡ b = omega arith in
    subst (λ (n : ℕ). IsPiece n (92 ∷ 120 ∷ digit_char (b / 16) ∷ digit_char (b % 16) ∷ [])) whole (Hex (b / 16) (b % 16) (omega arith) (omega arith))

piece_printed : (b : ℕ) → b < 256 → IsPiece b (quoted_byte b)
piece_printed b small = piece_by (b == 13) (b == 10) (b == 34) (b == 92) (is_visible b) b small refl refl refl refl refl

-- how a byte may be written

piece_small : (b : ℕ) (piece : List ℕ) → IsPiece b piece → b < 256
piece_small b piece (Plainly c low high quote slash) = omega arith
piece_small b piece Return = omega arith
piece_small b piece Feed = omega arith
piece_small b piece Quote = omega arith
piece_small b piece Backslash = omega arith
piece_small b piece (Hex high low is_high is_low) = omega arith

piece_feedless : (b : ℕ) (piece : List ℕ) → IsPiece b piece → feedless piece ≡ true
piece_feedless b piece (Plainly c low high quote slash) = grind (arith, nat_tests)
piece_feedless b piece Return = refl
piece_feedless b piece Feed = refl
piece_feedless b piece Quote = refl
piece_feedless b piece Backslash = refl
piece_feedless b piece (Hex high low is_high is_low) = grind (arith, nat_tests)

most_four : (cr lf quote slash visible : Bool) (b : ℕ) → length (spelled_by cr lf quote slash visible b) ≤ 4
most_four true lf quote slash visible b = omega arith
most_four false true quote slash visible b = omega arith
most_four false false true slash visible b = omega arith
most_four false false false true visible b = omega arith
most_four false false false false true b = omega arith
most_four false false false false false b = omega arith

plain_printed : (b : ℕ) → 32 ≤ b → b ≤ 126 → (b ≡ 34 → ⊥) → (b ≡ 92 → ⊥) → quoted_byte b ≡ b ∷ []
plain_printed b low high quote slash = grind (arith, nat_tests)

-- none is shorter than the printed one
piece_short : (b : ℕ) (piece : List ℕ) → IsPiece b piece → length (quoted_byte b) ≤ length piece
piece_short b piece (Plainly c low high quote slash) = rw (plain_printed b low high quote slash) (le_refl 1)
piece_short b piece Return = le_refl 2
piece_short b piece Feed = le_refl 2
piece_short b piece Quote = le_refl 2
piece_short b piece Backslash = le_refl 2
piece_short b piece (Hex high low is_high is_low) = most_four (b == 13) (b == 10) (b == 34) (b == 92) (is_visible b) b

-- a text, as it is printed
pub record Requotes (text written : List ℕ) : Type 0 where
  pub is_quoted : IsQuoted text (quoted text)
  pub clean : feedless (quoted text) ≡ true
  pub short : length (quoted text) ≤ length written

pub requoted : (text written : List ℕ) → IsQuoted text written → Requotes text written
requoted text written Empty = record { is_quoted = Empty; clean = refl; short = le_refl 0 }
requoted text written (More b piece more bytes is_piece is_quoted) =
    let rest = requoted more bytes is_quoted in
    let here = piece_printed b (piece_small b piece is_piece) in
    record {
      is_quoted = More b (quoted_byte b) more (quoted more) here rest.is_quoted;
      clean = both_feedless (quoted_byte b) (quoted more) (piece_feedless b (quoted_byte b) here) rest.clean;
      short = omega (arith, piece_short b piece is_piece, rest.short, length-append (quoted_byte b) (quoted more), length-append piece bytes);
    }
