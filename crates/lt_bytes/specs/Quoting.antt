-- How bytes are spelled between the quotes of scripts and reports: visible ASCII and the space as themselves,
-- the rest by `\r`, `\n`, `\"`, `\\` and `\xHH` with small digits.
use Rattle.std.specs.Prelude.{ℕ, ◌+◌, ◌*◌, ◌/◌, ◌%◌, Bool, not, ◌&&◌, ◌||◌, ◌==◌, List, [], ◌∷◌, Option, Some, None, flat_map, if◌then◌else◌}
use Rattle.std.specs.Char.{digit_char, digit_value, is_ascii_digit}
use Rattle.std.specs.Int.{is_in_range}

-- a visible byte of ASCII, or the space
abbrev pub is_visible : ℕ → Bool
is_visible b = is_in_range 32 126 b

-- one byte: `\r` for 13, `\n` for 10, `\"` for 34, `\\` for 92
abbrev pub quoted_byte : ℕ → List ℕ
quoted_byte b =
    if b == 13 then 92 ∷ 114 ∷ [] else (if b == 10 then 92 ∷ 110 ∷ [] else (if b == 34 || b == 92 then 92 ∷ b ∷ []
    else (if is_visible b then b ∷ [] else 92 ∷ 120 ∷ digit_char (b / 16) ∷ digit_char (b % 16) ∷ [])))

-- the bytes, one after another
abbrev pub quoted : List ℕ → List ℕ
quoted bytes = flat_map quoted_byte bytes

-- a hexadecimal digit with a small letter
abbrev pub is_hex_digit : ℕ → Bool
is_hex_digit b = is_ascii_digit b || is_in_range 97 102 b

-- what two digits spell, and what follows them
abbrev pub byte_of_hex : List ℕ → Option (ℕ × List ℕ)
byte_of_hex [] = None
byte_of_hex (c ∷ []) = None
byte_of_hex (c ∷ d ∷ rest) = if is_hex_digit c && is_hex_digit d then Some (digit_value c * 16 + digit_value d, rest) else None

-- what stands behind a backslash, and what follows it
abbrev pub byte_escaped : List ℕ → Option (ℕ × List ℕ)
byte_escaped [] = None
byte_escaped (b ∷ rest) =
    if b == 114 then Some (13, rest) else (if b == 110 then Some (10, rest) else (if b == 34 || b == 92 then Some (b, rest)
    else (if b == 120 then byte_of_hex rest else None)))

-- the byte that a quoted text begins with, and what follows it; a quote begins none
abbrev pub byte_unquoted : List ℕ → Option (ℕ × List ℕ)
byte_unquoted [] = None
byte_unquoted (b ∷ rest) = if b == 92 then byte_escaped rest else (if is_visible b && not (b == 34) then Some (b, rest) else None)
