use Rattle.std.proofs.Common.{◌≡◌, ◌∙◌, ℕ, List, Bool, Result, Ok, Err, ap, sym, subst}
use Rattle.conf_value.specs.declared.value.Value.{Value}
use Rattle.conf_eval.specs.declared.halt.Wrong.{Wrong}
use Rattle.conf_eval.specs.declared.halt.Halt.{Halt}
use Rattle.conf_eval.specs.declared.halt.Halt.TheVariants as halt
use Rattle.conf_eval.specs.declared.fault.LoadError.{LoadError}
use Rattle.conf_eval.specs.Answers.{Is, Ran, kept}
use Rattle.conf_eval.specs.Calls.{no_calls}
use Rattle.conf_eval.specs.Kept.{state_of}
use Rattle.conf_eval.specs.Load.{sets, set_by, set_with}
use Rattle.conf_eval.specs.Parts.{Part}
use Rattle.conf_eval.specs.Settings as spec
use Rattle.conf_eval.proofs.Courses.{BeginsBy, beginning}
use Rattle.conf_eval.proofs.Induction as all
use Rattle.conf_eval.proofs.Loads.{ran_as, wrong_by_itself}
use Rattle.conf_eval.proofs.setting.set.Goals as goal

pub returns-in-Ok-clause-ran : goal.returns-in-Ok-clause-ran
returns-in-Ok-clause-ran g c texts =
    let s = state_of c.args.loading.now in
    let scopes = c.args.scopes.now in
    let key = c.key_named-key.result.now in
    let by : List ℕ → Part = λ k s others. set_by c.args.file c.args.line scopes k (spec.settled scopes s.blocks k c.args.add c.args.terms.now) s others in
    ran_as (sets c.args.file c.args.line scopes c.args.word.now c.args.add c.args.terms.now) (set_with c.args.file c.args.line scopes key c.in-Ok.value c.in-Ok.warned) s s (state_of c.keep.new.loading)
    (kept texts (g.M.PatternMaker.calls c.args.maker.now)) (kept texts (g.M.PatternMaker.calls c.keep.new.maker)) c.keep.result
    (λ others. ap (λ (k : List ℕ). by k s others) (sym c.key_named-key.ensures) ∙ ap (λ (d : Result (Value × Bool) Wrong). set_by c.args.file c.args.line scopes key d s others) c.in-Ok.ensures.settled) (c.keep.ensures.ran texts)

pub returns-in-Err-clause-ran : goal.returns-in-Err-clause-ran
returns-in-Err-clause-ran g c texts =
    let s = state_of c.args.loading.now in
    let scopes = c.args.scopes.now in
    let key = c.key_named-key.result.now in
    let by : List ℕ → Part = λ k s others. set_by c.args.file c.args.line scopes k (spec.settled scopes s.blocks k c.args.add c.args.terms.now) s others in
    let whole = sets c.args.file c.args.line scopes c.args.word.now c.args.add c.args.terms.now in
    let calls = kept texts (g.M.PatternMaker.calls c.args.maker.now) in
    subst (λ (x : LoadError). Ran whole s calls calls (Err x) s) (sym c.stop.ensures)
    (wrong_by_itself whole s s calls c.args.file c.args.line (all.sets BeginsBy beginning c.args.file c.args.line scopes c.args.word.now c.args.add c.args.terms.now s) c.in-Err.halt
    (λ x p. ap (λ (k : List ℕ). by k s no_calls) (sym c.key_named-key.ensures)
    ∙ ap (λ (d : Result (Value × Bool) Wrong). set_by c.args.file c.args.line scopes key d s no_calls) (subst (λ (h : Halt). Is (spec.settled scopes s.blocks key c.args.add c.args.terms.now) (Err h)) p c.in-Err.ensures.settled)))
