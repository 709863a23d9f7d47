use Rattle.std.proofs.Common.{◌≡◌, ◌∙◌, List, ℕ, Some, true, false, ap, sym, subst}
use Rattle.conditions.specs.Comparing.{tries_pattern}
use Rattle.conf_eval.specs.declared.fault.LoadError.{LoadError}
use Rattle.conf_eval.specs.Answers.{kept}
use Rattle.conf_eval.specs.Calls.{no_calls}
use Rattle.conf_eval.specs.Kept.{state_of}
use Rattle.conf_eval.specs.Opening as spec
use Rattle.conf_eval.specs.Parts.{Stopped}
use Rattle.conf_eval.proofs.Loads.{stops, ran_as}
use Rattle.conf_eval.proofs.Openings.{on_full, on_bad, on_good}
use Rattle.conf_eval.proofs.opening.open_field.Goals as goal

pub returns-then-is_full-clause-ran : goal.returns-then-is_full-clause-ran
returns-then-is_full-clause-ran g c texts =
    let s = state_of c.args.loading.now in
    let full : spec.is_full s ≡ true = sym c.is_full.ensures ∙ c.if-is_full.true in
    stops (spec.opens_on c.args.file c.args.line c.args.scopes.now c.args.behind c.args.raw.now (Some c.args.field)) s s (kept texts (g.M.PatternMaker.calls c.args.maker.now)) c.fault.result
    (on_full c.args.file c.args.line c.args.scopes.now s no_calls c.args.behind c.args.raw.now c.args.field full ∙ ap (λ (x : LoadError). Stopped x no_calls) (sym c.fault.ensures))

pub returns-then-lacks_network-clause-ran : goal.returns-then-lacks_network-clause-ran
returns-then-lacks_network-clause-ran g c texts =
    let s = state_of c.args.loading.now in
    let few : spec.is_full s ≡ false = sym c.is_full.ensures ∙ c.if-is_full.false in
    let bad : spec.lacks_network c.args.field c.args.raw.now.op c.args.raw.now.text ≡ true = ap (spec.lacks_network c.args.field c.args.raw.now.op) (sym c.bytes.ensures.value) ∙ sym c.lacks_network.ensures ∙ c.if-lacks_network.true in
    stops (spec.opens_on c.args.file c.args.line c.args.scopes.now c.args.behind c.args.raw.now (Some c.args.field)) s s (kept texts (g.M.PatternMaker.calls c.args.maker.now)) c.fault-then-lacks_network.result
    (on_bad c.args.file c.args.line c.args.scopes.now s no_calls c.args.behind c.args.raw.now c.args.field few bad ∙ ap (λ (x : LoadError). Stopped x no_calls) (sym c.fault-then-lacks_network.ensures))

pub returns-clause-ran : goal.returns-clause-ran
returns-clause-ran g c texts =
    let s = state_of c.args.loading.now in
    let few : spec.is_full s ≡ false = sym c.is_full.ensures ∙ c.if-is_full.false in
    let good : spec.lacks_network c.args.field c.args.raw.now.op c.args.raw.now.text ≡ false = ap (spec.lacks_network c.args.field c.args.raw.now.op) (sym c.bytes.ensures.value) ∙ sym c.lacks_network.ensures ∙ c.if-lacks_network.false in
    ran_as (spec.opens_on c.args.file c.args.line c.args.scopes.now c.args.behind c.args.raw.now (Some c.args.field)) (spec.opens_by c.args.file c.args.line c.args.scopes.now c.args.behind c.args.raw.now c.args.field (tries_pattern c.args.raw.now.op))
    s s (state_of c.open_good.new.loading) (kept texts (g.M.PatternMaker.calls c.args.maker.now)) (kept texts (g.M.PatternMaker.calls c.open_good.new.maker)) c.open_good.result
    (λ others. on_good c.args.file c.args.line c.args.scopes.now s others c.args.behind c.args.raw.now c.args.field few good) (c.open_good.ensures.ran texts)
