-- Letter case and blanks (RFC 9110, section 5.6.3: OWS is spaces and tabs).
use Rattle.std.specs.Prelude.{◌≡◌, ℕ, Bool, true, false, ◌||◌, ◌==◌, List, [], ◌∷◌, ◌++◌, map, reverse, bytes_eq, if◌then◌else◌}
use Rattle.std.specs.Char.{to_ascii_lowercase}
use Rattle.std.specs.List.{list_all}

-- the bytes with small letters in place of ASCII capitals
abbrev pub lowered : List ℕ → List ℕ
lowered bytes = map to_ascii_lowercase bytes

-- the same bytes in any case
abbrev pub same_word : List ℕ → List ℕ → Bool
same_word a b = bytes_eq (lowered a) (lowered b)

-- a space or a tab
abbrev pub is_blank : ℕ → Bool
is_blank b = b == 32 || b == 9

-- the bytes from the first that is no blank
abbrev pub after_blanks : List ℕ → List ℕ
after_blanks [] = []
after_blanks (b ∷ bytes) = if is_blank b then after_blanks bytes else b ∷ bytes

-- the bytes up to the last that is no blank
abbrev pub before_blanks : List ℕ → List ℕ
before_blanks bytes = reverse (after_blanks (reverse bytes))

-- the bytes without the blanks at both ends
abbrev pub trimmed : List ℕ → List ℕ
trimmed bytes = before_blanks (after_blanks bytes)

-- rest is bytes without blanks at both ends, and no blank is left there
pub record IsTrimmed (bytes rest : List ℕ) : Type 0 where
  pub front : List ℕ
  pub back : List ℕ
  pub front_blank : list_all is_blank front ≡ true
  pub back_blank : list_all is_blank back ≡ true
  pub whole : bytes ≡ front ++ (rest ++ back)
  pub first : (b : ℕ) (more : List ℕ) → rest ≡ b ∷ more → is_blank b ≡ false
  pub last : (b : ℕ) (more : List ℕ) → rest ≡ more ++ b ∷ [] → is_blank b ≡ false
