use Rattle.std.proofs.Common.{Some, arith, sym, ◌∙◌, ap}
use Rattle.std.specs.Str.{bytes_eq}
use Rattle.lt_world.proofs.Naming.{skips, finds}
use Rattle.lt_world.proofs.mem_texts.last_named.Goals as goal

pub returns-then-eq : goal.returns-then-eq
returns-then-eq c =
    finds c.args.name.now c.args.texts.now c.loop-i.i c.index-texts-i.result _ c.loop-i-test.true c.loop-i.invariant.0 c.index-texts-i.is (ap (λ n. bytes_eq n c.args.name.now) (sym c.bytes.ensures.value) ∙ sym c.eq.ensures ∙ c.if-eq.true) c.loop-i.invariant.1
    ∙ ap (λ b. Some b) (sym c.bytes-then-eq.ensures.value)

pub loop-i-preserved : goal.loop-i-preserved
loop-i-preserved c = (
  omega (arith, c.loop-i.invariant.0),
  skips c.args.name.now c.args.texts.now c.loop-i.i c.index-texts-i.result _ c.loop-i-test.true c.loop-i.invariant.0 c.index-texts-i.is (ap (λ n. bytes_eq n c.args.name.now) (sym c.bytes.ensures.value) ∙ sym c.eq.ensures ∙ c.if-eq.false) c.loop-i.invariant.1,
)
