use Rattle.std.proofs.Common.{◌≤◌, length, ◌∙◌, ap, subst}
use Rattle.conditions.specs.Attributes.{attributes_of}
use Rattle.cond_cache.specs.Kept.{asked, conditions_in}
use Rattle.cond_cache.proofs.Asked.{few_asked}
use Rattle.server_model.specs.Settings.{settings_on}
use Rattle.request_settings.specs.Values.{values_on}
use Rattle.request_plan.specs.Kept.{Kept}
use Rattle.request_plan.proofs.Settling.{settings_same, lent_are}
use Rattle.request_plan.proofs.planner.Planner.settings_on.Goals as goal

pub returns-clause-settings : goal.returns-clause-settings
returns-clause-settings g c =
    lent_are c.settings_now.result (values_on c.self.inside.config.now.blocks (attributes_of c.args.attrs.now)) (settings_on c.args.self.now.site.blocks (attributes_of c.args.attrs.now)) c.settings_now.ensures.values
    (settings_same c.self.inside.config.now.blocks (attributes_of c.args.attrs.now) ∙ ap (λ (k : Kept). settings_on k.site.blocks (attributes_of c.args.attrs.now)) c.self.view_is)

pub returns-clause-few : goal.returns-clause-few
returns-clause-few g c =
    subst (λ (k : Kept). length (asked c.settings_now.new.conds) ≤ conditions_in k.site.blocks) c.self.view_is
    (few_asked c.self.inside.config.now.blocks (attributes_of c.args.attrs.now) c.settings_now.new.conds c.settings_now.ensures.right)
