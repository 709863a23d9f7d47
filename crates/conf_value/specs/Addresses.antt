-- Addresses and networks as a configuration writes them: dotted IPv4 (RFC 6943, section 3.1.1, the strict form), and a prefix of
-- so many bits behind a slash (RFC 4632, section 3.1). No number has a leading zero.
use Rattle.std.specs.Prelude.{ℕ, ◌+◌, Bool, ◌&&◌, ◌==◌, nat_lt, nat_le, List, [], ◌∷◌, length, take, drop, get_or, position, Option, Some, None, option_map, if◌then◌else◌}
use Rattle.std.specs.Option.{option_and_then}
use Rattle.lt_bytes.specs.declared.numbers.Number.{Number}
use Rattle.lt_bytes.specs.declared.numbers.Number.TheVariants.{Value}
use Rattle.lt_bytes.specs.Numbers.{number_of}
use Rattle.conf_value.specs.declared.address.Network.{Network}

infixl 10 ◌>>=◌
-- what follows is read only where the first was
abbrev pub ◌>>=◌ : {A B : Type 0} → Option A → (A → Option B) → Option B
o >>= f = option_and_then f o

-- the text before the first such sign, and the text behind it
unfoldable pub cut_at : ℕ → List ℕ → Option (List ℕ × List ℕ)
cut_at sign text = option_map (λ n. (take n text, drop (n + 1) text)) (position (λ b. b == sign) text)

-- more than one digit, of which the first is 0
abbrev pub has_leading_zero : List ℕ → Bool
has_leading_zero digits = nat_lt 1 (length digits) && (get_or digits 0 0 == 48)

abbrev pub at_most : ℕ → Number → Option ℕ
at_most most (Value n) = if nat_le n most then Some n else None
at_most most other = None

-- the number that digits write, up to this one
abbrev pub number_up_to : ℕ → List ℕ → Option ℕ
number_up_to most digits = if has_leading_zero digits then None else at_most most (number_of 10 digits)

-- the four numbers of a dotted address
unfoldable pub address_of : List ℕ → Option (List ℕ)
address_of text = do
  a ← cut_at 46 text
  b ← cut_at 46 a.1
  c ← cut_at 46 b.1
  first ← number_up_to 255 a.0
  second ← number_up_to 255 b.0
  third ← number_up_to 255 c.0
  fourth ← number_up_to 255 c.1
  Some (first ∷ second ∷ third ∷ fourth ∷ [])

-- an address with so many bits of it
abbrev pub network : List ℕ → ℕ → Network
network address bits = record { address = address; bits = bits }

unfoldable pub network_with : List ℕ → List ℕ → Option Network
network_with address bits = do
  whole ← address_of address
  count ← number_up_to 32 bits
  Some (network whole count)

abbrev pub network_by : List ℕ → Option (List ℕ × List ℕ) → Option Network
network_by text (Some parts) = network_with parts.0 parts.1
network_by text None = option_map (λ address. network address 32) (address_of text)

-- an address, or an address, a slash and bits from 0 to 32; an address alone is the network of all its bits
abbrev pub network_of : List ℕ → Option Network
network_of text = network_by text (cut_at 47 text)
