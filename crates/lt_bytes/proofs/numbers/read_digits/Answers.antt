use Rattle.std.proofs.Common.{◌≡◌, ◌≤◌, get_or, arith}
use Rattle.std.specs.Char.{digit_value}
use Rattle.lt_bytes.proofs.NumberLemmas.{next_number, next_digits}
use Rattle.lt_bytes.proofs.numbers.read_digits.Goals as goal

pub loop-byte-preserved : goal.loop-byte-preserved
loop-byte-preserved c =
    let some : 1 ≤ c.args.base = omega arith in
    let digit : c.in-Some.digit ≡ digit_value (get_or c.args.bytes.now c.loop-byte.byte-index 0) = rw (← c.from.ensures) c.in-Some.ensures.value.1 in (
      next_number c.args.base c.args.bytes.now c.loop-byte.byte-index c.in-Some.digit c.loop-byte.value c.min-value.result some c.loop-byte-test.true digit c.loop-byte.invariant.0 (grind arith),
      next_digits c.args.base c.args.bytes.now c.loop-byte.byte-index c.loop-byte-test.true (rw (← c.from.ensures) c.in-Some.ensures.value.0) c.loop-byte.invariant.1,
    )
