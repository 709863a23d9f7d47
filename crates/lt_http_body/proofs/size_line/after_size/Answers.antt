use Rattle.std.proofs.Common.{arith, rules}
use Rattle.lt_http_body.proofs.Sizes.{with_room}
use Rattle.lt_http_body.proofs.size_line.after_size.Goals as goal

pub overflow_mul-result : goal.overflow_mul-result
overflow_mul-result c = let small = with_room c.args.digits c.args.size c.if-digits-lt-SIZE_DIGITS.true c.requires.fits in omega arith

pub overflow_add-result-then-digits-lt-SIZE_DIGITS : goal.overflow_add-result-then-digits-lt-SIZE_DIGITS
overflow_add-result-then-digits-lt-SIZE_DIGITS c =
    let small = with_room c.args.digits c.args.size c.if-digits-lt-SIZE_DIGITS.true c.requires.fits in
    search (rules, arith)
