use Rattle.std.proofs.Common.{◌≡◌, ℕ, List, ap, ◌∙◌, length, map, rules}
use Rattle.std.specs.Prelude.{vec_len}
use Rattle.conf_value.specs.declared.value.Pair.{Pair}
use Rattle.static_files.specs.declared.media_types.Entry.{Entry}
use Rattle.static_files.specs.MediaTypes.{type_of}
use Rattle.static_files.specs.TypeSlots.{ending, slot_of, has_window, longest_by, types_of}
use Rattle.static_files.proofs.TypeLookup.{looked}
use Rattle.static_files.proofs.type_index.TypeIndex.longest_of.Goals as goal

pub returns : goal.returns
returns c =
    let count : vec_len c.self.inside.slots ≡ length c.self.inside.slots.items = search rules in
    let at : c.slot_of-at.result ≡ slot_of (length c.self.inside.slots.items) (ending c.args.window c.args.path.now) =
    c.slot_of-at.ensures.slot ∙ ap (λ (n : ℕ). slot_of n c.ending.result.now) (c.len.ensures ∙ count) ∙ ap (slot_of (length c.self.inside.slots.items)) c.ending.ensures in
    c.longest_in.ensures
    ∙ ap (λ (entries : List Entry). longest_by (has_window c.args.window) c.args.path.now (map type_of entries)) c.deref.ensures.value
    ∙ looked c.self.inside.slots.items c.self.inside.types.now c.args.window c.slot_of-at.result c.args.path.now c.index.result.now c.self.invariant.slots at (search rules) c.index.ensures
    ∙ ap (λ (pairs : List Pair). longest_by (has_window c.args.window) c.args.path.now (types_of pairs)) c.self.view_is
