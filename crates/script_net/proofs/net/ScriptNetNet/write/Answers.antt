use Rattle.std.proofs.Common.{rules, ◌≡◌, true, false, refl, sym, ◌∙◌, arith, le_refl}
use Rattle.script_net.specs.Sides.{side_at}
use Rattle.script_net.specs.Calls.{Writes}
use Rattle.script_net.proofs.Turning.{by_call}
use Rattle.script_net.proofs.net.ScriptNetNet.write.Goals as goal

pub returns-then-writes_fail-clause-later : goal.returns-then-writes_fail-clause-later
returns-then-writes_fail-clause-later c =
    let fails : (side_at c.args.link.0 c.self.inside.links.sides).writes_fail ≡ true = sym c.writes_fail.ensures ∙ c.if-writes_fail.true in
    rw (← c.self.view_is) (by_call (Writes c.args.link.0 c.args.bytes.now) _ _ refl (rw (c.fail_write.ensures.sides, c.fail_write.ensures.trace, fails) refl) refl (omega arith))

pub returns-then-n-eq0-clause-later : goal.returns-then-n-eq0-clause-later
returns-then-n-eq0-clause-later c =
    let works : (side_at c.args.link.0 c.self.inside.links.sides).writes_fail ≡ false = search rules in
    rw (← c.self.view_is) (by_call (Writes c.args.link.0 c.args.bytes.now) _ _ refl (rw (c.write.ensures.sides, c.write.ensures.trace, c.allowed-n.ensures, works) refl) refl (le_refl _))

pub returns-clause-later : goal.returns-clause-later
returns-clause-later c =
    let works : (side_at c.args.link.0 c.self.inside.links.sides).writes_fail ≡ false = search rules in
    rw (← c.self.view_is) (by_call (Writes c.args.link.0 c.args.bytes.now) _ _ refl (rw (c.write.ensures.sides, c.write.ensures.trace, c.allowed-n.ensures, works) refl) refl (le_refl _))
