use Rattle.std.proofs.Common.{arith, sym, ◌∙◌, ap}
use Rattle.std.specs.Str.{bytes_eq}
use Rattle.lt_world.specs.Disk.{Missing}
use Rattle.lt_world.specs.Memory.{last_at}
use Rattle.lt_world.proofs.Placing.{skips, finds}
use Rattle.lt_world.proofs.places.Places.last_at.Goals as goal

pub returns-then-eq : goal.returns-then-eq
returns-then-eq c =
    ap (λ l. last_at c.args.path.now l Missing) (sym c.self.view_is)
    ∙ finds c.args.path.now c.self.inside.places.items c.loop-i.i c.index-place.result.now _ c.loop-i-test.true (omega (arith, c.loop-i.invariant.0, c.self.inside.places.ok)) c.index-place.ensures (ap (λ p. bytes_eq p c.args.path.now) (sym c.bytes.ensures.value) ∙ sym c.eq.ensures ∙ c.if-eq.true) c.loop-i.invariant.1

pub loop-i-preserved : goal.loop-i-preserved
loop-i-preserved c = (
  omega (arith, c.loop-i.invariant.0),
  skips c.args.path.now c.self.inside.places.items c.loop-i.i c.index-place.result.now _ c.loop-i-test.true (omega (arith, c.loop-i.invariant.0, c.self.inside.places.ok)) c.index-place.ensures (ap (λ p. bytes_eq p c.args.path.now) (sym c.bytes.ensures.value) ∙ sym c.eq.ensures ∙ c.if-eq.false) c.loop-i.invariant.1,
)
