use Rattle.std.proofs.Common.{ℕ, List, Some, Ok, Err, refl, sym, ◌∙◌, ap, subst}
use Rattle.conditions.specs.Attributes.{attributes_of}
use Rattle.cond_cache.specs.Kept.{with_physical}
use Rattle.file_reply.specs.Refusals.{plain}
use Rattle.lt_world.specs.Disk.{IsFileAt}
use Rattle.static_files.specs.Places.{Tries}
use Rattle.static_files.specs.Texts.{texts_of}
use Rattle.static_files.specs.declared.places.Place.TheVariants as place
use Rattle.server_model.specs.Settings.{settings_on}
use Rattle.server_model.specs.Site.{Site}
use Rattle.request_plan.specs.Lent.{came, lent}
use Rattle.request_plan.specs.Planned.{PlansBy}
use Rattle.request_plan.proofs.Finding.{directory_calls, index_there, index_at, status_plans, wanted_calls, file_as}
use Rattle.request_plan.proofs.Words.{words_planned, words_of}
use Rattle.request_plan.proofs.planner.Planner.plan_directory.Goals as goal

pub returns-in_default-clause-plans : goal.returns-in_default-clause-plans
returns-in_default-clause-plans g c told before here = directory_calls c.args.self.now.site (Some (came c.args.arrival)) c.args.owner c.args.request.now before (g.F.Files.disk c.args.files.now) c.args.target.now c.args.physical.now here

pub plan_file-requires : goal.plan_file-requires
plan_file-requires g c = record {
  file = λ told. subst (λ (p : List ℕ). IsFileAt p (g.F.Files.disk c.find_file.new.files).tree) (sym c.bytes-stands.ensures.value)
      (index_there c.args.owner c.args.target.now.path c.args.physical.now (texts_of c.in-Ok.now.settings.index_file_names.now) (g.F.Files.disk c.args.files.now) (g.F.Files.disk c.find_file.new.files) c.in-Ok-File.path c.in-Ok-File.stands
      (subst (λ (p : List ℕ). Tries c.args.owner p c.args.physical.now (texts_of c.in-Ok.now.settings.index_file_names.now) (g.F.Files.disk c.args.files.now) (Ok (place.File c.in-Ok-File.path c.in-Ok-File.stands)) (g.F.Files.disk c.find_file.new.files)) c.bytes-2.ensures.value (rw c.in-Ok-File.field-0-is at (c.in-Ok-File.ensures.tries told))));
}

pub returns-in-Ok-File-clause-plans : goal.returns-in-Ok-File-clause-plans
returns-in-Ok-File-clause-plans g c told before here =
    let at = index_at c.args.self.now.site (Some (came c.args.arrival)) c.args.owner c.args.request.now before (g.F.Files.disk c.args.files.now) (g.F.Files.disk c.find_file.new.files) c.args.target.now c.args.physical.now (lent c.in-Ok.now.settings) here
    (c.in-Ok.ensures.settings ∙ ap (λ (s : Site). settings_on s.blocks (attributes_of c.at_place-attrs.result)) c.at_place-attrs.ensures.site
    ∙ ap (settings_on c.args.self.now.site.blocks) (c.at_place-attrs.ensures.attributes ∙ (λ i. with_physical (c.bytes.ensures.value i) c.args.physical.now (c.attrs_of-attrs.ensures i))))
    c.in-Ok-File.path c.in-Ok-File.stands (subst (λ (p : List ℕ). Tries c.args.owner p c.args.physical.now (texts_of c.in-Ok.now.settings.index_file_names.now) (g.F.Files.disk c.args.files.now) (Ok (place.File c.in-Ok-File.path c.in-Ok-File.stands)) (g.F.Files.disk c.find_file.new.files)) c.bytes-2.ensures.value (rw c.in-Ok-File.field-0-is at (c.in-Ok-File.ensures.tries told))) in
    let same = c.settings_on.ensures.site ∙ c.at_place-attrs.ensures.site in
    subst (λ (s : Site). PlansBy c.plan_file.result s (Some (came c.args.arrival)) c.args.owner.conn c.args.owner.request c.args.request.now before (g.F.Files.disk c.plan_file.new.files)) same
    (c.plan_file.ensures.plans told before
    (file_as c.args.self.now.site c.settings_on.new.self.site (Some (came c.args.arrival)) c.args.request.now c.args.owner c.args.target.now c.bytes-path.result.now c.bytes-stands.result.now c.in-Ok-File.path c.in-Ok-File.stands before (g.F.Files.disk c.find_file.new.files)
    same c.bytes-path.ensures.value c.bytes-stands.ensures.value at))

pub returns-in-Ok-Status-clause-plans : goal.returns-in-Ok-Status-clause-plans
returns-in-Ok-Status-clause-plans g c told before here =
    words_planned c.in_words.result (lent c.in-Ok.now.settings) (plain c.in-Ok-Status.status) c.args.self.now.site (Some (came c.args.arrival)) c.args.owner.conn c.args.owner.request c.args.request.now before (g.F.Files.disk c.find_file.new.files)
    (words_of (lent c.in-Ok.now.settings) c.plain.result (plain c.in-Ok-Status.status) c.in_words.result c.plain.ensures c.in_words.ensures) refl
    (status_plans c.args.self.now.site (Some (came c.args.arrival)) c.args.owner c.args.request.now before (g.F.Files.disk c.args.files.now) (g.F.Files.disk c.find_file.new.files) c.args.target.now c.args.physical.now (lent c.in-Ok.now.settings) here
    (c.in-Ok.ensures.settings ∙ ap (λ (s : Site). settings_on s.blocks (attributes_of c.at_place-attrs.result)) c.at_place-attrs.ensures.site
    ∙ ap (settings_on c.args.self.now.site.blocks) (c.at_place-attrs.ensures.attributes ∙ (λ i. with_physical (c.bytes.ensures.value i) c.args.physical.now (c.attrs_of-attrs.ensures i))))
    c.in-Ok-Status.status (subst (λ (p : List ℕ). Tries c.args.owner p c.args.physical.now (texts_of c.in-Ok.now.settings.index_file_names.now) (g.F.Files.disk c.args.files.now) (Ok (place.Status c.in-Ok-Status.status)) (g.F.Files.disk c.find_file.new.files)) c.bytes-2.ensures.value (rw c.in-Ok-Status.field-0-is at (c.in-Ok-Status.ensures.tries told))))

pub returns-in-Err-clause-plans : goal.returns-in-Err-clause-plans
returns-in-Err-clause-plans g c told before here =
    wanted_calls c.args.self.now.site (Some (came c.args.arrival)) c.args.owner c.args.request.now before (g.F.Files.disk c.args.files.now) (g.F.Files.disk c.find_file.new.files) c.args.target.now c.args.physical.now (lent c.in-Ok.now.settings) here
    (c.in-Ok.ensures.settings ∙ ap (λ (s : Site). settings_on s.blocks (attributes_of c.at_place-attrs.result)) c.at_place-attrs.ensures.site
    ∙ ap (settings_on c.args.self.now.site.blocks) (c.at_place-attrs.ensures.attributes ∙ (λ i. with_physical (c.bytes.ensures.value i) c.args.physical.now (c.attrs_of-attrs.ensures i))))
    c.in-Err.field-0 (subst (λ (p : List ℕ). Tries c.args.owner p c.args.physical.now (texts_of c.in-Ok.now.settings.index_file_names.now) (g.F.Files.disk c.args.files.now) (Err c.in-Err.field-0) (g.F.Files.disk c.find_file.new.files)) c.bytes-2.ensures.value (c.in-Err.ensures.tries told))
