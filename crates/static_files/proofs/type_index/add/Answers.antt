use Rattle.std.proofs.Common.{◌≡◌, ℕ, ap, ◌∙◌, length, rules}
use Rattle.std.specs.Prelude.{vec_len}
use Rattle.static_files.specs.MediaTypes.{type_of}
use Rattle.static_files.specs.TypeSlots.{ending, slot_of}
use Rattle.static_files.proofs.TypeSlots.{unchanged, filled}
use Rattle.static_files.proofs.type_index.add.Goals as goal

pub returns-in_default-clause-slots : goal.returns-in_default-clause-slots
returns-in_default-clause-slots c = λ before are. unchanged c.args.slots.now.items before c.args.pair.now c.in_default.ensures are

pub returns-clause-slots : goal.returns-clause-slots
returns-clause-slots c =
    let count : vec_len c.args.slots.now ≡ length c.args.slots.now.items = search rules in
    let at : c.slot_of-at.result ≡ slot_of (length c.args.slots.now.items) (ending 3 c.in-Some.entry.key.now) =
    c.slot_of-at.ensures.slot ∙ ap (λ (n : ℕ). slot_of n c.ending.result.now) (c.len.ensures ∙ count) ∙ ap (slot_of (length c.args.slots.now.items)) c.ending.ensures in
    λ before are.
    filled c.args.slots.now.items c.put.new.slots.items before c.args.pair.now (type_of c.in-Some.entry) c.slot_of-at.result c.in-Some.ensures at c.put.ensures.count c.in_ok-put.ensures.here
    c.in_ok-put.ensures.others are
