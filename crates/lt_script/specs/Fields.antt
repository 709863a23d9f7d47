-- For proofs alone: how the code reads the parts of a line from its front.
use Rattle.std.specs.Prelude.{ℕ, Bool, false, ◌&&◌, List, [], ◌∷◌, length, take, drop, get_or, Option, Some, None, option_map, if◌then◌else◌, ◌==◌, nat_lt, nat_le, codes}
use Rattle.std.specs.Char.{is_ascii_digit}
use Rattle.std.specs.List.{prefix_len}
use Rattle.lt_bytes.specs.declared.numbers.Number.{Number}
use Rattle.lt_bytes.specs.declared.numbers.Number.TheVariants.{Value}
use Rattle.lt_bytes.specs.Numbers.{number_of}
use Rattle.lt_world.specs.declared.net.Address.{Address}
use Rattle.lt_script.specs.declared.script.Name.{Name}
use Rattle.lt_script.specs.declared.limits.TheConstants.{NAME_LIMIT}
use Rattle.lt_script.specs.Gives.{◌>>=◌}

-- what follows these bytes
abbrev pub after : List ℕ → List ℕ → Option (List ℕ)
after [] bytes = Some bytes
after (c ∷ front) [] = None
after (c ∷ front) (b ∷ bytes) = if b == c then after front bytes else None

-- how many digits stand at the front
abbrev pub digits_len : List ℕ → ℕ
digits_len bytes = prefix_len is_ascii_digit bytes

-- more than one digit, of which the first is 0
abbrev pub leads_zero : List ℕ → Bool
leads_zero digits = nat_lt 1 (length digits) && (get_or digits 0 0 == 48)

-- a number between these bounds
abbrev pub within : ℕ → ℕ → Number → Option ℕ
within least most (Value n) = if nat_le least n && nat_le n most then Some n else None
within least most other = None

-- the number that digits write, without a leading zero and between these bounds
abbrev pub numeral_of : ℕ → ℕ → List ℕ → Option ℕ
numeral_of least most digits = if leads_zero digits then None else within least most (number_of 10 digits)

-- the number at the front, between these bounds, and what follows it
unfoldable pub number_at : ℕ → ℕ → List ℕ → Option (ℕ × List ℕ)
number_at least most bytes =
    option_map (λ n. (n, drop (digits_len bytes) bytes)) (numeral_of least most (take (digits_len bytes) bytes))

-- the name at the front
unfoldable pub name_at : List ℕ → Option (Name × List ℕ)
name_at bytes = do
  rest ← after (codes "c") bytes
  number ← number_at 0 NAME_LIMIT rest
  Some (record { gate = false; number = number.0 }, number.1)

-- a part of an address, and its dot
unfoldable pub octet_at : List ℕ → Option (ℕ × List ℕ)
octet_at bytes = do
  a ← number_at 0 255 bytes
  rest ← after (codes ".") a.1
  Some (a.0, rest)

-- the last part of an address, a colon and the port
unfoldable pub end_at : List ℕ → Option ((ℕ × ℕ) × List ℕ)
end_at bytes = do
  d ← number_at 0 255 bytes
  rest ← after (codes ":") d.1
  port ← number_at 0 65535 rest
  Some ((d.0, port.0), port.1)

-- the address at the front: four numbers joined by dots, a colon and the port
unfoldable pub address_at : List ℕ → Option (Address × List ℕ)
address_at bytes = do
  a ← octet_at bytes
  b ← octet_at a.1
  c ← octet_at b.1
  d ← end_at c.1
  Some (record { ip = a.0 ∷ b.0 ∷ c.0 ∷ d.0.0 ∷ []; port = d.0.1 }, d.1)
