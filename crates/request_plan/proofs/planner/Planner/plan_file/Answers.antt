use Rattle.std.proofs.Common.{Some, Ok, Err, sym, ◌∙◌, ap}
use Rattle.conditions.specs.Attributes.{Attributes}
use Rattle.cond_cache.specs.Kept.{with_physical}
use Rattle.file_reply.specs.Refusals.{refusal}
use Rattle.server_model.specs.Settings as model
use Rattle.request_plan.specs.Lent.{came, lent}
use Rattle.request_plan.proofs.OpenedFiles.{file_calls, refused_plans}
use Rattle.request_plan.proofs.Words.{words_planned, refused_in_words, plans_as}
use Rattle.request_plan.proofs.planner.Planner.plan_file.Goals as goal
use Rattle.request_plan.proofs.planner.Planner.plan_file.Goals.{in-Ok-Some, in-Ok-None, in-Err}

pub returns-in_default-clause-plans : goal.returns-in_default-clause-plans
returns-in_default-clause-plans g c told before here = file_calls c.args.self.now.site (Some (came c.args.arrival)) c.args.owner c.args.request.now before (g.F.Files.disk c.args.files.now) c.args.target.now c.args.path.now c.args.physical.now here

pub returns-clause-plans : goal.returns-clause-plans
returns-clause-plans g c told before here =
    let current = c.in-Ok.ensures.settings
    ∙ (λ i. model.settings_on (c.at_place-attrs.ensures.site i).blocks (c.at_place-attrs.ensures.attributes i))
    ∙ ap (λ (a : Attributes). model.settings_on c.args.self.now.site.blocks (with_physical c.args.path.now c.args.physical.now a)) c.attrs_of-attrs.ensures in
    let its = lent c.in-Ok.now.settings in
    let method = ap (refusal its.excluded c.args.path.now) (sym c.bytes.ensures.value) in
    elim c.match-refusal.branch [
      | in-Ok-Some w ↦
          let refused = method ∙ sym w.in-Ok-Some.ensures ∙ w.in-Ok-Some.field-0-is in
          plans_as c.match-refusal.result (Ok w.in_words.result) c.args.self.now.site (Some (came c.args.arrival)) c.args.owner.conn c.args.owner.request c.args.request.now before (g.F.Files.disk c.args.files.now) (g.F.Files.disk c.match-refusal.files) w.result-is (ap g.F.Files.disk w.files-is)
          (words_planned w.in_words.result its w.in-Ok-Some.said c.args.self.now.site (Some (came c.args.arrival)) c.args.owner.conn c.args.owner.request c.args.request.now before (g.F.Files.disk c.args.files.now) w.in_words.ensures
          (refused_in_words its.excluded c.args.path.now c.args.request.now.method w.in-Ok-Some.said refused)
          (refused_plans c.args.self.now.site (Some (came c.args.arrival)) c.args.owner c.args.request.now before (g.F.Files.disk c.args.files.now) c.args.target.now c.args.path.now c.args.physical.now here its current w.in-Ok-Some.said refused))
      | in-Ok-None w ↦
          let served = method ∙ sym w.in-Ok-None.ensures ∙ w.in-Ok-None.field-0-is in
          plans_as c.match-refusal.result w.open.result c.args.self.now.site (Some (came c.args.arrival)) c.args.owner.conn c.args.owner.request c.args.request.now before (g.F.Files.disk w.open.new.files) (g.F.Files.disk c.match-refusal.files) w.result-is (ap g.F.Files.disk w.files-is)
          (w.open.ensures.plans told c.args.self.now.site (Some (came c.args.arrival)) c.args.target.now c.args.path.now before here current w.media_type-media_type.ensures served)
      | in-Err w ↦
          plans_as c.match-refusal.result (Err w.in-Err.field-0) c.args.self.now.site (Some (came c.args.arrival)) c.args.owner.conn c.args.owner.request c.args.request.now before (g.F.Files.disk c.args.files.now) (g.F.Files.disk c.match-refusal.files) w.result-is (ap g.F.Files.disk w.files-is)
          (file_calls c.args.self.now.site (Some (came c.args.arrival)) c.args.owner c.args.request.now before (g.F.Files.disk c.args.files.now) c.args.target.now c.args.path.now c.args.physical.now here)
    ]
