use Rattle.std.proofs.Common.{◌≡◌, ℕ, ◌≤◌, length, ◌∙◌, ap, subst}
use Rattle.std.specs.Prelude.{IfOk}
use Rattle.conditions.specs.Attributes.{attributes_of}
use Rattle.cond_cache.specs.Kept.{asked, conditions_in}
use Rattle.cond_cache.proofs.Asked.{few_asked}
use Rattle.server_model.specs.Settings.{Settings, settings_on}
use Rattle.request_plan.specs.Kept.{Kept}
use Rattle.request_plan.proofs.Settling.{settings_same}
use Rattle.request_plan.proofs.planner.Planner.size_on.Goals as goal

pub returns-clause-limit : goal.returns-clause-limit
returns-clause-limit g c =
    subst (λ (s : Settings). IfOk c.request_size_now.result (λ (n : ℕ). n ≡ s.body_limit))
    (settings_same c.self.inside.config.now.blocks (attributes_of c.args.attrs.now) ∙ ap (λ (k : Kept). settings_on k.site.blocks (attributes_of c.args.attrs.now)) c.self.view_is)
    c.request_size_now.ensures.size

pub returns-clause-few : goal.returns-clause-few
returns-clause-few g c =
    subst (λ (k : Kept). length (asked c.request_size_now.new.conds) ≤ conditions_in k.site.blocks) c.self.view_is
    (few_asked c.self.inside.config.now.blocks (attributes_of c.args.attrs.now) c.request_size_now.new.conds c.request_size_now.ensures.right)
