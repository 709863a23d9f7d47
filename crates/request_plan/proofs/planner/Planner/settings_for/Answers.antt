use Rattle.std.proofs.Common.{refl, ◌∙◌, ap}
use Rattle.server_model.specs.Settings.{settings_from, global_settings}
use Rattle.request_plan.specs.Kept.{Kept}
use Rattle.request_plan.proofs.Settling.{global_same}
use Rattle.request_plan.proofs.planner.Planner.settings_for.Goals as goal

pub settings_of-requires : goal.settings_of-requires
settings_of-requires g c = record { right = c.requires.right c.in-Some.head.now (rw c.in-Some.is refl) }

pub returns-in-None-clause-settings : goal.returns-in-None-clause-settings
returns-in-None-clause-settings g c =
    rw c.in-None.is (ap settings_from c.self.invariant.global ∙ global_same c.self.inside.config.now.blocks ∙ ap (λ (k : Kept). global_settings k.site.blocks) c.self.view_is)
