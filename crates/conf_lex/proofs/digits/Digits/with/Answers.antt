use Rattle.std.proofs.Common.{◌<◌, ap, arith}
use Rattle.conf_lex.proofs.Numbers.{below_room}
use Rattle.conf_lex.proofs.digits.Digits.with.Goals as goal

pub overflow_mul-result : goal.overflow_mul-result
overflow_mul-result c = let same = ap (λ p. p.0) c.self.view_is in let room : c.self.inside.count < 18 = omega (arith, c.requires.room) in
    let small = below_room c.self.inside.count c.self.inside.value room c.self.invariant.1 in omega arith

pub overflow_add-result-2 : goal.overflow_add-result-2
overflow_add-result-2 c = let same = ap (λ p. p.0) c.self.view_is in let room : c.self.inside.count < 18 = omega (arith, c.requires.room) in
    let small = below_room c.self.inside.count c.self.inside.value room c.self.invariant.1 in let digit = c.ranges.digit in omega arith
