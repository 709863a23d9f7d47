use Rattle.std.proofs.Common.{◌≡◌, None, set, ◌∙◌, sym, ap, refl, arith}
use Rattle.lt_world.specs.Slots.{closes_slot}
use Rattle.lt_world.specs.SlotView.{slots_by}
use Rattle.lt_world.proofs.Slotted.{closes_below, closes_past}
use Rattle.lt_world.proofs.slots.Slots.release.Goals.{in-Some-1, in-None-1}
use Rattle.lt_world.proofs.slots.Slots.release.Goals as goal

closed : (c : goal.Joined-slot) → slots_by (set c.self.inside.slots.items c.args.file None) ≡ closes_slot c.args.file c.args.self.now
closed c = closes_below c.self.inside.slots.items c.args.file _ (omega (arith, c.if-i-len.true, c.len.ensures, c.self.inside.slots.ok)) refl ∙ ap (closes_slot c.args.file) c.self.view_is

pub returns-then-i-len : goal.returns-then-i-len
returns-then-i-len c = elim c.match-slot.branch [ in-Some-1 w ↦ w.self-is ∙ closed c | in-None-1 w ↦ w.self-is ∙ closed c ]

pub returns-else-i-len : goal.returns-else-i-len
returns-else-i-len c = sym c.self.view_is ∙ closes_past c.self.inside.slots.items c.args.file (omega (arith, c.if-i-len.false, c.len.ensures, c.self.inside.slots.ok)) ∙ ap (closes_slot c.args.file) c.self.view_is
