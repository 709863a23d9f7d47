use Rattle.std.proofs.Common.{◌++◌, ◌∷◌, [], Some, not, length, arith, ◌∙◌, ap, if◌then◌else◌}
use Rattle.lt_world.specs.SlotView.{slots_by}
use Rattle.lt_world.proofs.Slotted.{slots-push, length-slots}
use Rattle.lt_world.proofs.slots.Slots.open.Goals as goal

pub returns : goal.returns
returns c = (
  omega (arith, c.len-file.ensures, c.self.inside.slots.ok, length-slots c.self.inside.slots.items, ap length c.self.view_is),
  ap slots_by (c.push.ensures.items ∙ ap (λ b. if b then c.self.inside.slots.items ++ Some c.in-Ok.shared ∷ [] else c.self.inside.slots.items) (c.is_err.ensures.negation ∙ ap not c.if-is_err.false))
      ∙ slots-push c.self.inside.slots.items _ ∙ (λ i. c.self.view_is i ++ Some (c.in-Ok.ensures.cases i) ∷ []),
)
