use Rattle.std.proofs.Common.{◌≡◌, ◌≢◌, ◌-◌, ◌⊎◌, inl, inr, get_or, false, arith, rules}
use Rattle.std.specs.Char.{is_ascii_digit}
use Rattle.http_head.proofs.PortLemmas.{port_before, no_port_before}
use Rattle.http_head.proofs.host.without_port.Goals.{then-loop-end-test+else-is_ascii_digit, else-loop-end-test, else-end-gt0-via-then-end-gt0+else-field-end-eq58, else-end-gt0-via-else-end-gt0}
use Rattle.http_head.proofs.host.without_port.Goals as goal

pub returns-then-field-end-eq58 : goal.returns-then-field-end-eq58
returns-then-field-end-eq58 c =
    port_before c.args.field.now c.loop-end.end c.if-end-gt0.true c.loop-end.invariant.within c.loop-end.invariant.digits c.if-field-end-eq58.true

pub returns-else-end-gt0 : goal.returns-else-end-gt0
returns-else-end-gt0 c =
    let field = c.args.field.now in
    let end = c.loop-end.end in
    let other : (end ≡ 0) ⊎ (is_ascii_digit (get_or field (end - 1) 0) ≡ false) = elim c.loop-end-test.branch [
      | then-loop-end-test+else-is_ascii_digit w ↦ inr (search rules)
      | else-loop-end-test w ↦ inl (omega arith)
    ] in
    let colon : (end ≡ 0) ⊎ (get_or field (end - 1) 0 ≢ 58) = elim c.else-end-gt0.branch [
      | else-end-gt0-via-then-end-gt0+else-field-end-eq58 w ↦ inr w.if-field-end-eq58.false
      | else-end-gt0-via-else-end-gt0 w ↦ inl (omega arith)
    ] in
    no_port_before field end c.loop-end.invariant.within c.loop-end.invariant.digits other colon
