use Rattle.std.proofs.Common.{◌≡◌, Some, Ok, false, ◌∙◌, ap, subst}
use Rattle.rewrite.specs.Rewriting.{Ended}
use Rattle.server_model.specs.Site.{Site}
use Rattle.request_plan.specs.Lent.{came}
use Rattle.request_plan.specs.Planned.{PlansBy}
use Rattle.request_plan.proofs.Turning.{same_leads}
use Rattle.request_plan.proofs.planner.Planner.plan.Goals as goal

pub returns-in-Ok-false-clause-plans : goal.returns-in-Ok-false-clause-plans
returns-in-Ok-false-clause-plans g c told =
    let answer : c.is_rewritten.result ≡ Ok false = c.in-Ok-false.is ∙ ap Ok c.in-Ok-false.field-0-test in
    let ended = c.is_rewritten.ensures.same answer in
    subst (λ (s : Site). PlansBy c.plan_target.result s (Some (came c.args.arrival)) c.args.owner.conn c.args.owner.request c.args.request.now (g.F.Files.disk c.args.files.now) (g.F.Files.disk c.plan_target.new.files)) c.is_rewritten.ensures.site
    (c.plan_target.ensures.plans told (same_leads c.args.self.now.site c.is_rewritten.new.self.site (Some (came c.args.arrival)) c.args.request.now (g.F.Files.disk c.args.files.now).tree c.args.request.now.target c.is_rewritten.ensures.site
    (ap (λ (e : Ended). e.target) ended) (ap (λ (e : Ended). e.answer) ended)))
