use Rattle.std.proofs.Common.{List, slice_get, sym, ◌∙◌, ap}
use Rattle.cond_cache.specs.declared.place.Place.{Place}
use Rattle.cond_cache.specs.Kept.{groups_in}
use Rattle.cond_cache.proofs.Places.{group_is}
use Rattle.cond_cache.proofs.conds.RequestConds.group.Goals as goal

pub returns-in-Some : goal.returns-in-Some
returns-in-Some c blocks a right =
    c.groups.ensures ∙ ap (groups_in c.in-Some.place.now) c.self.invariant
    ∙ group_is blocks a c.args.self.now right c.args.block c.in-Some.place.now (sym (ap (λ (l : List Place). slice_get l c.args.block) c.self.view_is) ∙ sym c.in-Some.ensures) c.requires
