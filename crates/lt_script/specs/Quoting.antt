-- For proofs alone: how the code reads a quoted text, a byte at a time.
use Rattle.std.specs.Prelude.{ℕ, ◌+◌, ◌*◌, ◌-◌, ◌%◌, List, [], ◌∷◌, ◌++◌, Option, Some, None, option_map, if◌then◌else◌, ◌==◌, nat_lt, nat_le}
use Rattle.lt_script.specs.declared.quoting.State.{State}
use Rattle.lt_script.specs.declared.quoting.State.TheVariants.{Plain, Escape, High, Low}
use Rattle.lt_script.specs.declared.quoting.Move.{Move}
use Rattle.lt_script.specs.declared.quoting.Move.TheVariants.{To, Byte, End, Bad}

-- the value of a digit `0` to `9` or `a` to `f`
abbrev pub hex_value : ℕ → Option ℕ
hex_value b = if nat_lt b 48 then None else (if nat_le b 57 then Some (b - 48) else (if nat_lt b 97 then None else (if nat_le b 102 then Some (b - 87) else None)))

-- a byte of its own, the closing quote, or the beginning of an escape
abbrev pub plain_move : ℕ → Move
plain_move b = if b == 34 then End else (if b == 92 then To Escape else (if nat_lt b 32 then Bad else (if nat_lt 126 b then Bad else Byte b)))

-- the sign after a backslash
abbrev pub escape_move : ℕ → Move
escape_move b = if b == 114 then Byte 13 else (if b == 110 then Byte 10 else (if b == 34 then Byte 34 else (if b == 92 then Byte 92 else (if b == 120 then To High else Bad))))

-- the first digit of `\xHH`
abbrev pub high_move : Option ℕ → Move
high_move None = Bad
high_move (Some high) = To (Low high)

-- the second digit of `\xHH`
abbrev pub low_move : ℕ → Option ℕ → Move
low_move high None = Bad
low_move high (Some low) = Byte (high % 16 * 16 + low)

-- what a byte makes of the reader
abbrev pub move_of : State → ℕ → Move
move_of Plain b = plain_move b
move_of Escape b = escape_move b
move_of High b = high_move (hex_value b)
move_of (Low high) b = low_move high (hex_value b)

-- more bytes in front of a text
abbrev pub with_front : List ℕ → Option (List ℕ × List ℕ) → Option (List ℕ × List ℕ)
with_front front read = option_map (λ x. (front ++ x.0, x.1)) read

-- what a move makes of the rest
abbrev pub follow : Move → (State → Option (List ℕ × List ℕ)) → List ℕ → Option (List ℕ × List ℕ)
follow (To state) go rest = go state
follow (Byte byte) go rest = with_front (byte ∷ []) (go Plain)
follow End go rest = Some ([], rest)
follow Bad go rest = None

-- the text up to the closing quote, and what follows it
abbrev pub unquote : List ℕ → State → Option (List ℕ × List ℕ)
unquote [] state = None
unquote (b ∷ bytes) state = follow (move_of state b) (unquote bytes) bytes
