use Rattle.std.proofs.Common.{Some, arith, sym, ◌∙◌, ap}
use Rattle.lt_world.specs.Memory.{table_by}
use Rattle.lt_world.specs.SlotView.{slot_bytes}
use Rattle.lt_world.proofs.Slotted.{table_below, table_slot}
use Rattle.lt_world.proofs.slots.Slots.bytes.Goals as goal

pub index-requires : goal.index-requires
index-requires c = omega (arith, c.self.inside.slots.ok, table_below c.self.inside.slots.items c.args.file c.requires.0 (ap (λ s. table_by s c.args.file) c.self.view_is ∙ c.requires.1))

pub returns-in-Some : goal.returns-in-Some
returns-in-Some c =
    let below = table_below c.self.inside.slots.items c.args.file c.requires.0 (ap (λ s. table_by s c.args.file) c.self.view_is ∙ c.requires.1) in
    ap (λ s. table_by s c.args.file) (sym c.self.view_is) ∙ table_slot c.self.inside.slots.items c.args.file c.index.result.now below c.index.ensures
    ∙ ap slot_bytes c.in-Some.is ∙ ap (λ y. Some y) (sym (c.bytes.ensures.value ∙ c.deref.ensures))

pub returns-in-None : goal.returns-in-None
returns-in-None c =
    let below = table_below c.self.inside.slots.items c.args.file c.requires.0 (ap (λ s. table_by s c.args.file) c.self.view_is ∙ c.requires.1) in
    absurd (cc (ap (λ s. table_by s c.args.file) c.self.view_is, c.requires.1, table_slot c.self.inside.slots.items c.args.file c.index.result.now below c.index.ensures, ap slot_bytes c.in-None.is))
