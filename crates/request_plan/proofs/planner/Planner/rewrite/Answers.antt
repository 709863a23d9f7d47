use Rattle.std.proofs.Common.{◌≡◌, ◌+◌, ◌*◌, ◌≤◌, length, Some, ◌∙◌, ap, subst}
use Rattle.std.specs.Prelude.{IfOk, OnOk}
use Rattle.cond_cache.specs.Kept.{asked, conditions_in}
use Rattle.rewrite.specs.Rewriting.{Ended}
use Rattle.rewrite.specs.declared.rewriting.Rewritten.{Rewritten}
use Rattle.server_model.specs.Rewrites.{rewriting}
use Rattle.request_settings.specs.Lists.{rewriting_on}
use Rattle.request_plan.specs.Lent.{came}
use Rattle.request_plan.specs.Kept.{Kept}
use Rattle.request_plan.proofs.Settling.{rewriting_same}
use Rattle.request_plan.proofs.planner.Planner.rewrite.Goals as goal

pub returns-clause-answer : goal.returns-clause-answer
returns-clause-answer g c =
    let e : rewriting_on c.self.inside.config.now.blocks c.args.arrival c.args.request.now c.args.target.now ≡ rewriting c.args.self.now.site.blocks (Some (came c.args.arrival)) c.args.request.now =
    ap (rewriting_on c.self.inside.config.now.blocks c.args.arrival c.args.request.now) c.requires.sent ∙ rewriting_same c.self.inside.config.now.blocks c.args.arrival c.args.request.now
    ∙ ap (λ (k : Kept). rewriting k.site.blocks (Some (came c.args.arrival)) c.args.request.now) c.self.view_is in
    subst (λ (x : Ended). IfOk c.rewrite_now.result (λ (a : Rewritten). a ≡ x.answer)) e c.rewrite_now.ensures.answer

pub returns-clause-target : goal.returns-clause-target
returns-clause-target g c =
    let e : rewriting_on c.self.inside.config.now.blocks c.args.arrival c.args.request.now c.args.target.now ≡ rewriting c.args.self.now.site.blocks (Some (came c.args.arrival)) c.args.request.now =
    ap (rewriting_on c.self.inside.config.now.blocks c.args.arrival c.args.request.now) c.requires.sent ∙ rewriting_same c.self.inside.config.now.blocks c.args.arrival c.args.request.now
    ∙ ap (λ (k : Kept). rewriting k.site.blocks (Some (came c.args.arrival)) c.args.request.now) c.self.view_is in
    subst (λ (x : Ended). OnOk c.rewrite_now.result (c.rewrite_now.new.target ≡ x.target)) e c.rewrite_now.ensures.target

pub returns-clause-steps : goal.returns-clause-steps
returns-clause-steps g c =
    let e : rewriting_on c.self.inside.config.now.blocks c.args.arrival c.args.request.now c.args.target.now ≡ rewriting c.args.self.now.site.blocks (Some (came c.args.arrival)) c.args.request.now =
    ap (rewriting_on c.self.inside.config.now.blocks c.args.arrival c.args.request.now) c.requires.sent ∙ rewriting_same c.self.inside.config.now.blocks c.args.arrival c.args.request.now
    ∙ ap (λ (k : Kept). rewriting k.site.blocks (Some (came c.args.arrival)) c.args.request.now) c.self.view_is in
    subst (λ (x : Ended × Kept). OnOk c.rewrite_now.result (c.rewrite_now.new.steps + length (asked x.1.places) ≤ c.args.steps.now + x.0.passes * conditions_in x.1.site.blocks + length (asked c.rewrite_now.new.conds)))
    (λ i. (e i, c.self.view_is i)) c.rewrite_now.ensures.steps

pub returns-clause-bounded : goal.returns-clause-bounded
returns-clause-bounded g c =
    let e : rewriting_on c.self.inside.config.now.blocks c.args.arrival c.args.request.now c.args.target.now ≡ rewriting c.args.self.now.site.blocks (Some (came c.args.arrival)) c.args.request.now =
    ap (rewriting_on c.self.inside.config.now.blocks c.args.arrival c.args.request.now) c.requires.sent ∙ rewriting_same c.self.inside.config.now.blocks c.args.arrival c.args.request.now
    ∙ ap (λ (k : Kept). rewriting k.site.blocks (Some (came c.args.arrival)) c.args.request.now) c.self.view_is in
    subst (λ (x : Ended × Kept). c.rewrite_now.new.steps + length (asked x.1.places) ≤ c.args.steps.now + x.0.passes * conditions_in x.1.site.blocks + length (asked c.rewrite_now.new.conds) + 1)
    (λ i. (e i, c.self.view_is i)) c.rewrite_now.ensures.bounded
