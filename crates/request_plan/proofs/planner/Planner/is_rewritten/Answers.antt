use Rattle.std.proofs.Common.{Some, sym, ◌∙◌, ap}
use Rattle.server_model.specs.Rewrites.{rewriting}
use Rattle.request_plan.specs.Lent.{came}
use Rattle.request_plan.specs.Kept.{Kept}
use Rattle.request_plan.proofs.Settling.{rewriting_same}
use Rattle.request_plan.proofs.planner.Planner.is_rewritten.Goals as goal

pub returns-clause-same : goal.returns-clause-same
returns-clause-same g c is =
    sym (ap (λ (k : Kept). rewriting k.site.blocks (Some (came c.args.arrival)) c.args.request.now) c.self.view_is)
    ∙ sym (rewriting_same c.self.inside.config.now.blocks c.args.arrival c.args.request.now) ∙ c.is_rewritten_now.ensures.same is
