use Rattle.std.proofs.Common.{◌<◌, ◌^◌, ap, arith, rules, ◌∙◌, pos, w64}
use Rattle.std.proofs.lemmas.Int.{to_z_pos}
use Rattle.conf_lex.proofs.Numbers.{below_most}
use Rattle.conf_lex.proofs.digits.Digits.number.Goals as goal

pub overflow_cast-result : goal.overflow_cast-result
overflow_cast-result c = let small = below_most c.self.inside.count c.self.inside.value c.self.invariant.0 c.self.invariant.1 in search rules

pub returns : goal.returns
returns c = let small = below_most c.self.inside.count c.self.inside.value c.self.invariant.0 c.self.invariant.1 in
    to_z_pos w64 c.self.inside.value (let fits : c.self.inside.value < 2 ^ 63 = omega arith in fits) ∙ ap (λ p. pos p.1) c.self.view_is
