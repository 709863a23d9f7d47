use Rattle.std.proofs.Common.{◌≡◌, ◌∙◌, ℕ, List, Option, Some, None, ap, sym}
use Rattle.conditions.specs.Fields.{field_of}
use Rattle.conf_value.specs.declared.condition.Field.{Field}
use Rattle.conf_eval.specs.declared.fault.LoadError.{LoadError}
use Rattle.conf_eval.specs.Answers.{kept}
use Rattle.conf_eval.specs.Calls.{no_calls}
use Rattle.conf_eval.specs.Kept.{state_of}
use Rattle.conf_eval.specs.Opening as spec
use Rattle.conf_eval.specs.Parts.{Part, Stopped}
use Rattle.conf_eval.proofs.Courses.{BeginsBy, beginning}
use Rattle.conf_eval.proofs.Induction as all
use Rattle.conf_eval.proofs.Loads.{lacks_memory, ran_as, stops}
use Rattle.conf_eval.proofs.opening.open_on.Goals as goal

pub returns-in-Ok-Some-clause-ran : goal.returns-in-Ok-Some-clause-ran
returns-in-Ok-Some-clause-ran g c texts =
    let s = state_of c.args.loading.now in
    let raw = c.args.raw.now in
    let by : Option Field → Part = spec.opens_on c.args.file c.args.line c.args.scopes.now c.args.behind raw in
    let found : field_of raw.group raw.name ≡ Some c.in-Ok-Some.field = ap (λ (x : List ℕ). field_of x raw.name) (sym c.bytes.ensures.value) ∙ ap (field_of c.bytes.result.now) (sym c.bytes-2.ensures.value) ∙ sym c.in-Ok-Some.ensures ∙ c.in-Ok-Some.field-0-is in
    ran_as (spec.opens c.args.file c.args.line c.args.scopes.now c.args.behind (Some raw)) (by (Some c.in-Ok-Some.field)) s s (state_of c.open_field.new.loading)
    (kept texts (g.M.PatternMaker.calls c.args.maker.now)) (kept texts (g.M.PatternMaker.calls c.open_field.new.maker)) c.open_field.result (λ others. ap (λ (f : Option Field). by f s others) found) (c.open_field.ensures.ran texts)

pub returns-in-Ok-None-clause-ran : goal.returns-in-Ok-None-clause-ran
returns-in-Ok-None-clause-ran g c texts =
    let s = state_of c.args.loading.now in
    let raw = c.args.raw.now in
    let by : Option Field → Part = spec.opens_on c.args.file c.args.line c.args.scopes.now c.args.behind raw in
    let found : field_of raw.group raw.name ≡ None = ap (λ (x : List ℕ). field_of x raw.name) (sym c.bytes.ensures.value) ∙ ap (field_of c.bytes.result.now) (sym c.bytes-2.ensures.value) ∙ sym c.in-Ok-None.ensures ∙ c.in-Ok-None.field-0-is in
    stops (spec.opens c.args.file c.args.line c.args.scopes.now c.args.behind (Some raw)) s s (kept texts (g.M.PatternMaker.calls c.args.maker.now)) c.fault.result
    (ap (λ (f : Option Field). by f s no_calls) found ∙ ap (λ (x : LoadError). Stopped x no_calls) (sym c.fault.ensures))

pub returns-in-Err-clause-ran : goal.returns-in-Err-clause-ran
returns-in-Err-clause-ran g c texts =
    let s = state_of c.args.loading.now in
    lacks_memory (spec.opens c.args.file c.args.line c.args.scopes.now c.args.behind (Some c.args.raw.now)) s s (kept texts (g.M.PatternMaker.calls c.args.maker.now))
    (all.opens BeginsBy beginning c.args.file c.args.line c.args.scopes.now c.args.behind (Some c.args.raw.now) s)
