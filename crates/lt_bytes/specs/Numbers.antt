-- Numbers as digits write them (RFC 5234, appendix B.1: DIGIT and HEXDIG, the latter in either case).
use Rattle.std.specs.Prelude.{ℕ, ◌^◌, Bool, ◌&&◌, nat_lt, List, length, if◌then◌else◌}
use Rattle.std.specs.Char.{digit_value}
use Rattle.std.specs.List.{list_all}
use Rattle.std.specs.Str.Parse.{digits_value}
use Rattle.lt_bytes.specs.declared.numbers.Number.{Number}
use Rattle.lt_bytes.specs.declared.numbers.Number.TheVariants.{Value, NotANumber, Overflow}

-- the byte is a digit in the base
abbrev pub is_digit : ℕ → ℕ → Bool
is_digit base b = nat_lt (digit_value b) base

-- one byte or more, each of which is a digit in the base
abbrev pub are_digits : ℕ → List ℕ → Bool
are_digits base bytes = nat_lt 0 (length bytes) && list_all (is_digit base) bytes

-- the number, where 64 bits hold it
abbrev pub fitting : ℕ → Number
fitting n = if nat_lt n (2 ^ 64) then Value n else Overflow

-- what a text says as a number in the base
abbrev pub number_of : ℕ → List ℕ → Number
number_of base bytes = if are_digits base bytes then fitting (digits_value base bytes) else NotANumber
