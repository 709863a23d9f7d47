use Rattle.std.proofs.Common.{◌≡◌, ◌∙◌, Some, None, true, false, ap, sym}
use Rattle.conf_eval.specs.declared.fault.LoadError.{LoadError}
use Rattle.conf_eval.specs.Calls.{no_calls}
use Rattle.conf_eval.specs.Kept.{state_of}
use Rattle.conf_eval.specs.Opening as spec
use Rattle.conf_eval.specs.Parts.{Stopped}
use Rattle.conf_eval.proofs.Loads.{stops, ran_as}
use Rattle.conf_eval.proofs.Openings.{bare_full, bare_open}
use Rattle.conf_eval.proofs.opening.open_else.Goals as goal

pub returns-then-is_full-clause-ran : goal.returns-then-is_full-clause-ran
returns-then-is_full-clause-ran c calls =
    let s = state_of c.args.loading.now in
    let full : spec.is_full s ≡ true = sym c.is_full.ensures ∙ c.if-is_full.true in
    stops (spec.opens_bare c.args.file c.args.line c.args.scopes.now (Some c.args.behind)) s s calls c.fault.result
    (bare_full c.args.file c.args.line c.args.scopes.now s no_calls c.args.behind full ∙ ap (λ (x : LoadError). Stopped x no_calls) (sym c.fault.ensures))

pub returns-clause-ran : goal.returns-clause-ran
returns-clause-ran c calls =
    let s = state_of c.args.loading.now in
    let few : spec.is_full s ≡ false = sym c.is_full.ensures ∙ c.if-is_full.false in
    ran_as (spec.opens_bare c.args.file c.args.line c.args.scopes.now (Some c.args.behind)) (spec.opens_with c.args.scopes.now (Some c.args.behind) None) s s (state_of c.open.new.loading) calls calls c.open.result
    (λ others. bare_open c.args.file c.args.line c.args.scopes.now s others c.args.behind few) (c.open.ensures.ran calls)
