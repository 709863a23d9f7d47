use Rattle.std.proofs.Common.{Some, sym, subst}
use Rattle.cond_cache.specs.Kept.{conditions_in}
use Rattle.cond_cache.proofs.Asked.{few_asked}
use Rattle.server_model.specs.Attributes.{attributes_at}
use Rattle.server_model.specs.Rewrites.{rewriting}
use Rattle.server_model.specs.Site.{Site}
use Rattle.request_settings.specs.Attributes.{attributes_on}
use Rattle.request_plan.specs.Lent.{came}
use Rattle.request_plan.specs.Kept.{asked_of}
use Rattle.request_plan.specs.Planned.{PlansBy}
use Rattle.request_plan.proofs.Turning.{same_leads, new_leads, loop_plans, bad_plans, before_all, in_rewriting}
use Rattle.request_plan.proofs.planner.Planner.plan_rewritten.Goals as goal

pub returns-in_default-clause-compares : goal.returns-in_default-clause-compares
returns-in_default-clause-compares g c =
    before_all c.args.steps.now (asked_of c.args.self.now) (rewriting c.args.self.now.site.blocks (Some (came c.args.arrival)) c.args.request.now).passes (conditions_in c.args.self.now.site.blocks)
    (few_asked c.args.self.now.site.blocks (attributes_at (Some (came c.args.arrival)) c.args.request.now c.args.request.now.target) c.args.self.now.places c.requires.right)

pub rewrite-requires-clause-few : goal.rewrite-requires-clause-few
rewrite-requires-clause-few g c = few_asked c.args.self.now.site.blocks (attributes_at (Some (came c.args.arrival)) c.args.request.now c.args.request.now.target) c.args.self.now.places c.requires.right

pub returns-in-Ok-Same-clause-plans : goal.returns-in-Ok-Same-clause-plans
returns-in-Ok-Same-clause-plans g c told =
    subst (λ (s : Site). PlansBy c.plan_target.result s (Some (came c.args.arrival)) c.args.owner.conn c.args.owner.request c.args.request.now (g.F.Files.disk c.args.files.now) (g.F.Files.disk c.plan_target.new.files)) c.rewrite.ensures.site
    (c.plan_target.ensures.plans told (same_leads c.args.self.now.site c.rewrite.new.self.site (Some (came c.args.arrival)) c.args.request.now (g.F.Files.disk c.args.files.now).tree c.rewrite.new.target c.rewrite.ensures.site
    (sym c.in-Ok-Same.ensures.target) (sym (rw c.in-Ok-Same.field-0-is at c.in-Ok-Same.ensures.answer))))

pub returns-in-Ok-New-clause-plans : goal.returns-in-Ok-New-clause-plans
returns-in-Ok-New-clause-plans g c told =
    subst (λ (s : Site). PlansBy c.plan_target-in-Ok-New.result s (Some (came c.args.arrival)) c.args.owner.conn c.args.owner.request c.args.request.now (g.F.Files.disk c.args.files.now) (g.F.Files.disk c.plan_target-in-Ok-New.new.files)) c.rewrite.ensures.site
    (c.plan_target-in-Ok-New.ensures.plans told (new_leads c.args.self.now.site c.rewrite.new.self.site (Some (came c.args.arrival)) c.args.request.now (g.F.Files.disk c.args.files.now).tree c.rewrite.new.target c.rewrite.ensures.site
    (sym c.in-Ok-New.ensures.target) (sym (rw c.in-Ok-New.field-0-is at c.in-Ok-New.ensures.answer))))

pub returns-in-Ok-Loop-clause-plans : goal.returns-in-Ok-Loop-clause-plans
returns-in-Ok-Loop-clause-plans g c told =
    loop_plans c.plan_status.result c.args.self.now.site c.rewrite.new.self.site (Some (came c.args.arrival)) c.args.owner c.args.request.now (g.F.Files.disk c.args.files.now) c.rewrite.new.target c.rewrite.ensures.site
    (sym c.in-Ok-Loop.ensures.target) (sym (rw c.in-Ok-Loop.field-0-is at c.in-Ok-Loop.ensures.answer)) c.plan_status.ensures.says

pub returns-in-Ok-Bad-clause-plans : goal.returns-in-Ok-Bad-clause-plans
returns-in-Ok-Bad-clause-plans g c told =
    bad_plans c.plan_status-in-Ok-Bad.result c.args.self.now.site c.rewrite.new.self.site (Some (came c.args.arrival)) c.args.owner c.args.request.now (g.F.Files.disk c.args.files.now) c.rewrite.new.target c.rewrite.ensures.site
    (sym c.in-Ok-Bad.ensures.target) (sym (rw c.in-Ok-Bad.field-0-is at c.in-Ok-Bad.ensures.answer)) c.plan_status-in-Ok-Bad.ensures.says

pub returns-clause-compares : goal.returns-clause-compares
returns-clause-compares g c =
    in_rewriting c.rewrite.new.steps c.args.steps.now (asked_of c.args.self.now) (asked_of c.rewrite.new.self) (rewriting c.args.self.now.site.blocks (Some (came c.args.arrival)) c.args.request.now).passes (conditions_in c.args.self.now.site.blocks)
    c.rewrite.ensures.bounded
    (few_asked c.args.self.now.site.blocks (attributes_on c.args.arrival c.args.request.now c.rewrite.new.target) c.rewrite.new.self.places c.rewrite.ensures.right)
