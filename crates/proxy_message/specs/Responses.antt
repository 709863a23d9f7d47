-- The head of a response that the grammar of RFC 9112, sections 2 to 5, reads at the front, as a function of the bytes: the
-- status line and the fields in their order.
use Rattle.std.specs.Prelude.{ℕ, suc, ◌&&◌, ◌==◌, List, [], ◌∷◌, length, Option, Some, None, option_and_then, if◌then◌else◌, codes}
use Rattle.std.specs.Char.{is_ascii_digit}
use Rattle.httparse.specs.Grammar.{is_value_byte, ResponseHead}
use Rattle.http_head.specs.Read.{run, after_run, read_byte, read_bytes, read_end, read_section, read_blank, read_minor}

infixl 10 ◌>>=◌
abbrev ◌>>=◌ : {A B : Type 0} → Option A → (A → Option B) → Option B
o >>= f = option_and_then f o

-- three digits, and what follows them
abbrev pub read_code : List ℕ → Option (List ℕ × List ℕ)
read_code [] = None
read_code (a ∷ []) = None
read_code (a ∷ b ∷ []) = None
read_code (a ∷ b ∷ c ∷ rest) =
    if is_ascii_digit a && (is_ascii_digit b && is_ascii_digit c) then Some (a ∷ b ∷ c ∷ [], rest) else None

-- a space and the reason phrase, if there is one, and what follows them
abbrev pub read_reason : List ℕ → Option (List ℕ) × List ℕ
read_reason [] = (None, [])
read_reason (b ∷ bs) = if b == 32 then (Some (run is_value_byte bs), after_run is_value_byte bs) else (None, b ∷ bs)

-- the head at the front, and what follows it
unfoldable pub read_response : List ℕ → Option (ResponseHead × List ℕ)
read_response xs = do
  version ← read_bytes (codes "HTTP/1.") (read_blank xs).1
  minor ← read_minor version
  space ← read_byte 32 minor.1
  code ← read_code space
  end ← read_end (read_reason code.1).1
  section ← read_section (suc (length end.1)) end.1
  Some (record { blank = (read_blank xs).0; minor = minor.0; digits = code.0; reason = (read_reason code.1).0; line_end = end.0; fields = section.0.0; last = section.0.1 }, section.1)
