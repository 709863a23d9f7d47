use Rattle.std.proofs.Common.{sym, ◌∙◌, ap}
use Rattle.settings.specs.Used.{pairs_or_none, setting_at}
use Rattle.request_plan.specs.Kept.{Kept}
use Rattle.request_plan.proofs.Settling.{type_of}
use Rattle.request_plan.proofs.planner.Planner.type_at.Goals as goal

pub returns-in-Some : goal.returns-in-Some
returns-in-Some c =
    c.mime.ensures ∙ type_of c.self.inside.config.now.blocks c.self.inside.types c.places.result.now c.in-Some.number c.args.place c.args.now.now.settings.mimetype_assign.now c.args.now.now.types_at c.args.path.now
    c.self.invariant.types (c.places.ensures c.self.inside.config.now.blocks c.self.invariant.belongs.indexed) c.in-Some.ensures
    (c.requires.types ∙ sym (ap (λ (k : Kept). pairs_or_none (setting_at k.site.blocks c.args.now.now.types_at)) c.self.view_is)) c.requires.place
