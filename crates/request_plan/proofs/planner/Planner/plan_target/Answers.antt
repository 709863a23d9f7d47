use Rattle.std.proofs.Common.{ℕ, ◌++◌, List, Some, refl, sym, ◌∙◌, ap, subst}
use Rattle.file_reply.specs.Refusals.{plain, moved}
use Rattle.lt_world.specs.Disk.{ends_in_slash}
use Rattle.server_model.specs.Settings.{settings_on}
use Rattle.server_model.specs.Site.{Site}
use Rattle.request_plan.specs.Lent.{came, lent}
use Rattle.request_plan.specs.Planned.{PlansBy}
use Rattle.request_plan.proofs.Finding.{file_at, directory_at, missing_plans, moved_plans, failed_plans, file_as, directory_as}
use Rattle.request_plan.proofs.Words.{words_planned, words_of, words_by}
use Rattle.request_plan.proofs.planner.Planner.plan_target.Goals as goal

pub returns-in-File-clause-plans : goal.returns-in-File-clause-plans
returns-in-File-clause-plans g c told here =
    let right = c.in-File.ensures.right told in
    let at = file_at c.args.self.now.site (Some (came c.args.arrival)) c.args.owner c.args.request.now (g.F.Files.disk c.args.files.now) (g.F.Files.disk c.find.new.self) c.args.target.now c.bytes.result.now (lent c.in-Ok.now.settings) here
    (c.in-Ok.ensures.settings ∙ ap (settings_on c.args.self.now.site.blocks) c.attrs_of-attrs.ensures)
    (c.bytes.ensures.value ∙ c.in-Ok-map_path.ensures ∙ ap (λ (p : List ℕ). (lent c.in-Ok.now.settings).root ++ p) c.bytes-path.ensures.value)
    (c.in-File.ensures.disk told) right.0 c.in-File.time right.1 in
    subst (λ (s : Site). PlansBy c.plan_file.result s (Some (came c.args.arrival)) c.args.owner.conn c.args.owner.request c.args.request.now (g.F.Files.disk c.args.files.now) (g.F.Files.disk c.plan_file.new.files)) c.settings_on.ensures.site
    (c.plan_file.ensures.plans told (g.F.Files.disk c.args.files.now)
    (file_as c.args.self.now.site c.settings_on.new.self.site (Some (came c.args.arrival)) c.args.request.now c.args.owner c.args.target.now c.bytes-path.result.now c.bytes-physical.result.now c.args.target.now.path c.bytes.result.now (g.F.Files.disk c.args.files.now) (g.F.Files.disk c.find.new.self)
    c.settings_on.ensures.site c.bytes-path.ensures.value (c.bytes-physical.ensures.value ∙ sym c.bytes.ensures.value) at))

pub returns-then-not-ends_in_slash-clause-plans : goal.returns-then-not-ends_in_slash-clause-plans
returns-then-not-ends_in_slash-clause-plans g c told here =
    words_by c.send_on.result (lent c.in-Ok.now.settings) (moved c.args.target.now.path c.args.target.now.query) c.args.self.now.site (Some (came c.args.arrival)) c.args.owner.conn c.args.owner.request c.args.request.now (g.F.Files.disk c.args.files.now) (g.F.Files.disk c.find.new.self) c.send_on.ensures refl
    (moved_plans c.args.self.now.site (Some (came c.args.arrival)) c.args.owner c.args.request.now (g.F.Files.disk c.args.files.now) (g.F.Files.disk c.find.new.self) c.args.target.now c.bytes.result.now (lent c.in-Ok.now.settings) here
    (c.in-Ok.ensures.settings ∙ ap (settings_on c.args.self.now.site.blocks) c.attrs_of-attrs.ensures)
    (c.bytes.ensures.value ∙ c.in-Ok-map_path.ensures ∙ ap (λ (p : List ℕ). (lent c.in-Ok.now.settings).root ++ p) c.bytes-path.ensures.value)
    (c.in-Directory.ensures.disk told) (c.in-Directory.ensures.right told) (sym (c.if-not-ends_in_slash.ensures ∙ ap ends_in_slash c.bytes-path.ensures.value)))

pub returns-in-Directory-clause-plans : goal.returns-in-Directory-clause-plans
returns-in-Directory-clause-plans g c told here =
    let at = directory_at c.args.self.now.site (Some (came c.args.arrival)) c.args.owner c.args.request.now (g.F.Files.disk c.args.files.now) (g.F.Files.disk c.find.new.self) c.args.target.now c.bytes.result.now (lent c.in-Ok.now.settings) here
    (c.in-Ok.ensures.settings ∙ ap (settings_on c.args.self.now.site.blocks) c.attrs_of-attrs.ensures)
    (c.bytes.ensures.value ∙ c.in-Ok-map_path.ensures ∙ ap (λ (p : List ℕ). (lent c.in-Ok.now.settings).root ++ p) c.bytes-path.ensures.value)
    (c.in-Directory.ensures.disk told) (c.in-Directory.ensures.right told) (sym (c.if-not-ends_in_slash.ensures ∙ ap ends_in_slash c.bytes-path.ensures.value)) in
    subst (λ (s : Site). PlansBy c.plan_directory.result s (Some (came c.args.arrival)) c.args.owner.conn c.args.owner.request c.args.request.now (g.F.Files.disk c.args.files.now) (g.F.Files.disk c.plan_directory.new.files)) c.settings_on.ensures.site
    (c.plan_directory.ensures.plans told (g.F.Files.disk c.args.files.now)
    (directory_as c.args.self.now.site c.settings_on.new.self.site (Some (came c.args.arrival)) c.args.request.now c.args.owner c.args.target.now c.bytes-in-Directory.result.now c.bytes.result.now (g.F.Files.disk c.args.files.now) (g.F.Files.disk c.find.new.self)
    c.settings_on.ensures.site (c.bytes-in-Directory.ensures.value ∙ sym c.bytes.ensures.value) at))

pub returns-in-Missing-clause-plans : goal.returns-in-Missing-clause-plans
returns-in-Missing-clause-plans g c told here =
    words_planned c.in_words.result (lent c.in-Ok.now.settings) (plain 404) c.args.self.now.site (Some (came c.args.arrival)) c.args.owner.conn c.args.owner.request c.args.request.now (g.F.Files.disk c.args.files.now) (g.F.Files.disk c.find.new.self)
    (words_of (lent c.in-Ok.now.settings) c.plain.result (plain 404) c.in_words.result c.plain.ensures c.in_words.ensures) refl
    (missing_plans c.args.self.now.site (Some (came c.args.arrival)) c.args.owner c.args.request.now (g.F.Files.disk c.args.files.now) (g.F.Files.disk c.find.new.self) c.args.target.now c.bytes.result.now (lent c.in-Ok.now.settings) here
    (c.in-Ok.ensures.settings ∙ ap (settings_on c.args.self.now.site.blocks) c.attrs_of-attrs.ensures)
    (c.bytes.ensures.value ∙ c.in-Ok-map_path.ensures ∙ ap (λ (p : List ℕ). (lent c.in-Ok.now.settings).root ++ p) c.bytes-path.ensures.value)
    (c.in-Missing.ensures.disk told) (c.in-Missing.ensures.right told))

pub returns-in-Failed-clause-plans : goal.returns-in-Failed-clause-plans
returns-in-Failed-clause-plans g c told here =
    words_planned c.in_words-in-Failed.result (lent c.in-Ok.now.settings) (plain 500) c.args.self.now.site (Some (came c.args.arrival)) c.args.owner.conn c.args.owner.request c.args.request.now (g.F.Files.disk c.args.files.now) (g.F.Files.disk c.find.new.self)
    (words_of (lent c.in-Ok.now.settings) c.plain-in-Failed.result (plain 500) c.in_words-in-Failed.result c.plain-in-Failed.ensures c.in_words-in-Failed.ensures) refl
    (failed_plans c.args.self.now.site (Some (came c.args.arrival)) c.args.owner c.args.request.now (g.F.Files.disk c.args.files.now) (g.F.Files.disk c.find.new.self) c.args.target.now c.bytes.result.now (lent c.in-Ok.now.settings) here
    (c.in-Ok.ensures.settings ∙ ap (settings_on c.args.self.now.site.blocks) c.attrs_of-attrs.ensures)
    (c.bytes.ensures.value ∙ c.in-Ok-map_path.ensures ∙ ap (λ (p : List ℕ). (lent c.in-Ok.now.settings).root ++ p) c.bytes-path.ensures.value)
    (c.in-Failed.ensures.disk told))
