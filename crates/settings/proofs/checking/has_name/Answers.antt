use Rattle.std.proofs.Common.{◌≡◌, ℕ, ◌+◌, suc, drop, ap, sym, ◌∙◌, arith}
use Rattle.settings.specs.Checking.{has_name}
use Rattle.settings.proofs.Texts.{name_later}
use Rattle.settings.proofs.checking.has_name.Goals as goal

pub loop-at-preserved : goal.loop-at-preserved
loop-at-preserved c =
    let e : c.loop-at.at + 1 ≡ suc c.loop-at.at = omega arith in
    ap (λ (n : ℕ). has_name (drop n c.args.text.now)) e ∙ sym (name_later c.args.text.now c.loop-at.at (omega (arith, c.loop-at-test.true)) (sym c.opens_name_at.ensures ∙ c.if-opens_name_at.false)) ∙ c.loop-at.invariant
