-- The lines of a text, and where their line feeds stand.
use Rattle.std.proofs.Common.{◌≡◌, ℕ, ◌+◌, Bool, true, false, List, [], ◌∷◌, ◌++◌, length, refl, ap, ◌∙◌, arith, append_assoc, if◌then◌else◌, ◌==◌, flat_map}
use Rattle.lt_script.specs.Texts.{in_front, lines_of}
use Rattle.lt_script.specs.Printing.{with_feed}

-- no byte is a line feed
abbrev pub feedless : List ℕ → Bool
feedless [] = true
feedless (b ∷ bytes) = if b == 10 then false else feedless bytes

pub both_feedless : (front back : List ℕ) → feedless front ≡ true → feedless back ≡ true → feedless (front ++ back) ≡ true
both_feedless [] back one two = two
both_feedless (b ∷ front) back one two = by (b == 10) one (λ h. both_feedless front back h two)
  where
    by : (t : Bool) → (if t then false else feedless front) ≡ true → (feedless front ≡ true → feedless (front ++ back) ≡ true) → (if t then false else feedless (front ++ back)) ≡ true
    by true one go = absurd (cc one)
    by false one go = go one

abbrev pub AreFeedless : List (List ℕ) → Type 0
AreFeedless [] = Unit {0}
AreFeedless (line ∷ lines) = (feedless line ≡ true) × AreFeedless lines

pub all_feedless : (front back : List (List ℕ)) → AreFeedless front → AreFeedless back → AreFeedless (front ++ back)
all_feedless [] back one two = two
all_feedless (line ∷ front) back one two = (one.0, all_feedless front back one.1 two)

-- each line of a text is without one
front_feedless : (b : ℕ) (x : List (List ℕ) × List ℕ) → (b == 10) ≡ false → AreFeedless x.0 → AreFeedless (in_front b x).0
front_feedless b ([], last) other clean = tt
front_feedless b ((line ∷ lines), last) other clean = (rw other clean.0, clean.1)

pub lines_feedless : (bytes : List ℕ) → AreFeedless (lines_of bytes).0
lines_feedless [] = tt
lines_feedless (b ∷ bytes) = by (b == 10) refl (lines_feedless bytes)
  where
    by : (t : Bool) → (b == 10) ≡ t → AreFeedless (lines_of bytes).0 → AreFeedless (if t then ([] ∷ (lines_of bytes).0, (lines_of bytes).1) else in_front b (lines_of bytes)).0
    by true is rest = (refl, rest)
    by false is rest = front_feedless b (lines_of bytes) is rest

-- how many bytes lines have, with a line feed each
abbrev pub size_of : List (List ℕ) → ℕ
size_of [] = 0
size_of (line ∷ lines) = length line + 1 + size_of lines

pub size_append : (front back : List (List ℕ)) → size_of (front ++ back) ≡ size_of front + size_of back
size_append [] back = omega arith
size_append (line ∷ front) back = omega (arith, size_append front back)

front_size : (b : ℕ) (x : List (List ℕ) × List ℕ) → size_of (in_front b x).0 + length (in_front b x).1 ≡ 1 + (size_of x.0 + length x.1)
front_size b ([], last) = omega arith
front_size b ((line ∷ lines), last) = omega arith

pub text_size : (bytes : List ℕ) → length bytes ≡ size_of (lines_of bytes).0 + length (lines_of bytes).1
text_size [] = refl
text_size (b ∷ bytes) = by (b == 10) (text_size bytes)
  where
    by : (t : Bool) → length bytes ≡ size_of (lines_of bytes).0 + length (lines_of bytes).1 → let x : List (List ℕ) × List ℕ = if t then ([] ∷ (lines_of bytes).0, (lines_of bytes).1) else in_front b (lines_of bytes) in length (b ∷ bytes) ≡ size_of x.0 + length x.1
    by true rest = omega (arith, rest)
    by false rest = omega (arith, rest, front_size b (lines_of bytes))

-- a line that is ended by a line feed
line_cut : (line rest : List ℕ) → feedless line ≡ true → lines_of (line ++ 10 ∷ rest) ≡ (line ∷ (lines_of rest).0, (lines_of rest).1)
line_cut [] rest clean = refl
line_cut (b ∷ line) rest clean = by (b == 10) clean (line_cut line rest)
  where
    by : (t : Bool) → (if t then false else feedless line) ≡ true → (feedless line ≡ true → lines_of (line ++ 10 ∷ rest) ≡ (line ∷ (lines_of rest).0, (lines_of rest).1))
        → (if t then ([] ∷ (lines_of (line ++ 10 ∷ rest)).0, (lines_of (line ++ 10 ∷ rest)).1) else in_front b (lines_of (line ++ 10 ∷ rest))) ≡ ((b ∷ line) ∷ (lines_of rest).0, (lines_of rest).1)
    by true clean go = absurd (cc clean)
    by false clean go = ap (in_front b) (go clean)

-- lines that are joined are cut again
pub lines_again : (lines : List (List ℕ)) → AreFeedless lines → lines_of (flat_map with_feed lines) ≡ (lines, [])
lines_again [] clean = refl
lines_again (line ∷ lines) clean =
    ap lines_of (append_assoc line (10 ∷ []) (flat_map with_feed lines)) ∙ line_cut line (flat_map with_feed lines) clean.0
    ∙ ap (λ (x : List (List ℕ) × List ℕ). (line ∷ x.0, x.1)) (lines_again lines clean.1)
