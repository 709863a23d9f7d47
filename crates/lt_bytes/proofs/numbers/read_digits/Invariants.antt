use Rattle.std.proofs.Common.{◌≡◌, ◌^◌, min, true, take}
use Rattle.std.specs.List.{list_all}
use Rattle.std.specs.Str.Parse.{digits_value}
use Rattle.lt_bytes.specs.Numbers.{is_digit}
use Rattle.lt_bytes.proofs.numbers.read_digits.Given as goal

abbrev pub invariant-loop-byte : goal.invariant-loop-byte
invariant-loop-byte l =
    (l.value ≡ min (digits_value l.base (take l.byte-index l.bytes)) (2 ^ 64)) × (list_all (is_digit l.base) (take l.byte-index l.bytes) ≡ true)
