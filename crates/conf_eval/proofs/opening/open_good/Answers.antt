use Rattle.std.proofs.Common.{◌≡◌, ◌∙◌, ◌++◌, ◌∷◌, [], ℕ, List, Option, Some, None, Bool, true, false, Ok, Err, length, ap, sym, subst, refl}
use Rattle.lt_world.specs.declared.texts.Fetch.{Fetch}
use Rattle.conditions.specs.Comparing.{tries_pattern}
use Rattle.conditions.specs.Marked.{Marked}
use Rattle.conf_value.specs.declared.condition.Condition.{Condition}
use Rattle.conf_eval.specs.Answers.{Ran, kept}
use Rattle.conf_eval.specs.Kept.{state_of}
use Rattle.conf_eval.specs.Opening as spec
use Rattle.conf_eval.specs.Parts.{Part, goes_on, makes}
use Rattle.conf_eval.specs.Sound.{HasOwn}
use Rattle.conf_eval.proofs.Courses.{BeginsBy, beginning}
use Rattle.conf_eval.proofs.Induction as all
use Rattle.conf_eval.proofs.Loads.{lacks_memory, ran_as, first_stops, then_ran}
use Rattle.conf_eval.proofs.Openings.{own_pattern}
use Rattle.conf_eval.proofs.opening.open_good.Goals as goal

pub returns-in_default-clause-ran : goal.returns-in_default-clause-ran
returns-in_default-clause-ran g c texts =
    let s = state_of c.args.loading.now in
    lacks_memory (spec.opens_by c.args.file c.args.line c.args.scopes.now c.args.behind c.args.raw.now c.args.field (tries_pattern c.args.raw.now.op)) s s (kept texts (g.M.PatternMaker.calls c.args.maker.now))
    (all.opens_by BeginsBy beginning c.args.file c.args.line c.args.scopes.now c.args.behind c.args.raw.now c.args.field (tries_pattern c.args.raw.now.op) s)

pub returns-then-not-tries_pattern-clause-ran : goal.returns-then-not-tries_pattern-clause-ran
returns-then-not-tries_pattern-clause-ran g c texts =
    let s = state_of c.args.loading.now in
    let raw = c.args.raw.now in
    let by : Bool → Part = spec.opens_by c.args.file c.args.line c.args.scopes.now c.args.behind raw c.args.field in
    let tries : tries_pattern raw.op ≡ false = sym c.tries_pattern.ensures ∙ c.if-not-tries_pattern.true in
    let is : c.condition.result ≡ spec.condition_of raw c.args.field None = c.condition.ensures ∙ ap (λ (t : List ℕ). record { field = c.args.field; op = raw.op; text = t; pattern = None }) (c.in-Ok.ensures ∙ c.bytes.ensures.value) in
    ran_as (by (tries_pattern raw.op)) (spec.opens_with c.args.scopes.now c.args.behind (Some c.condition.result)) s s (state_of c.open.new.loading) (kept texts (g.M.PatternMaker.calls c.args.maker.now)) (kept texts (g.M.PatternMaker.calls c.args.maker.now)) c.open.result
    (λ others. ap (λ (t : Bool). by t s others) tries ∙ ap (λ (x : Condition). spec.opens_with c.args.scopes.now c.args.behind (Some x) s others) (sym is)) (c.open.ensures.ran (kept texts (g.M.PatternMaker.calls c.args.maker.now)))

pub open-requires-in-Ok-make-clause-condition : goal.open-requires-in-Ok-make-clause-condition
open-requires-in-Ok-make-clause-condition g c =
    let raw = c.args.raw.now in
    let ps = c.args.loading.now.built.patterns in
    let tries : tries_pattern raw.op ≡ true = sym c.tries_pattern.ensures ∙ c.if-not-tries_pattern.false in
    let is : c.condition-in-Ok-make.result ≡ spec.condition_of raw c.args.field (Some (length ps)) = c.condition-in-Ok-make.ensures
    ∙ ap (λ (t : List ℕ). record { field = c.args.field; op = raw.op; text = t; pattern = Some c.patterns-number.result }) (c.in-Ok.ensures ∙ c.bytes.ensures.value)
    ∙ ap (λ (n : ℕ). spec.condition_of raw c.args.field (Some n)) c.patterns-number.ensures.len in
    let made : c.make.new.loading.built.patterns ≡ ps ++ (raw.text, false) ∷ [] = c.in-Ok-make.ensures.patterns ∙ ap (λ (t : List ℕ). ps ++ (t, false) ∷ []) c.bytes-2.ensures.value in
    subst (λ (x : Condition). HasOwn c.make.new.loading.built.patterns (Some x)) (sym is)
    (subst (λ (l : List Marked). HasOwn l (Some (spec.condition_of raw c.args.field (Some (length ps))))) (sym made) (own_pattern raw c.args.field ps tries c.requires.network))

pub returns-in-Ok-make-clause-ran : goal.returns-in-Ok-make-clause-ran
returns-in-Ok-make-clause-ran g c texts =
    let s = state_of c.args.loading.now in
    let raw = c.args.raw.now in
    let ps = c.args.loading.now.built.patterns in
    let by : Bool → Part = spec.opens_by c.args.file c.args.line c.args.scopes.now c.args.behind raw c.args.field in
    let tries : tries_pattern raw.op ≡ true = sym c.tries_pattern.ensures ∙ c.if-not-tries_pattern.false in
    let is : c.condition-in-Ok-make.result ≡ spec.condition_of raw c.args.field (Some (length ps)) = c.condition-in-Ok-make.ensures
    ∙ ap (λ (t : List ℕ). record { field = c.args.field; op = raw.op; text = t; pattern = Some c.patterns-number.result }) (c.in-Ok.ensures ∙ c.bytes.ensures.value)
    ∙ ap (λ (n : ℕ). spec.condition_of raw c.args.field (Some n)) c.patterns-number.ensures.len in
    then_ran (by (tries_pattern raw.op)) (makes c.args.file c.args.line false raw.text) (spec.opens_with c.args.scopes.now c.args.behind (Some c.condition-in-Ok-make.result)) s (state_of c.make.new.loading) (state_of c.open-in-Ok-make.new.loading)
    (kept texts (g.M.PatternMaker.calls c.args.maker.now)) (kept texts (g.M.PatternMaker.calls c.make.new.maker)) (kept texts (g.M.PatternMaker.calls c.make.new.maker)) c.open-in-Ok-make.result
    (λ others. ap (λ (t : Bool). by t s others) tries
    ∙ ap (λ (x : Condition). goes_on (makes c.args.file c.args.line false raw.text s others) (spec.opens_with c.args.scopes.now c.args.behind (Some x))) (sym is))
    (subst (λ (t : List ℕ). Ran (makes c.args.file c.args.line false t) s (kept texts (g.M.PatternMaker.calls c.args.maker.now)) (kept texts (g.M.PatternMaker.calls c.make.new.maker)) (Ok tt) (state_of c.make.new.loading)) c.bytes-2.ensures.value (c.in-Ok-make.ensures.ran texts))
    (c.open-in-Ok-make.ensures.ran (kept texts (g.M.PatternMaker.calls c.make.new.maker)))

pub returns-in-Err-clause-ran : goal.returns-in-Err-clause-ran
returns-in-Err-clause-ran g c texts =
    let s = state_of c.args.loading.now in
    let raw = c.args.raw.now in
    let by : Bool → Part = spec.opens_by c.args.file c.args.line c.args.scopes.now c.args.behind raw c.args.field in
    let tries : tries_pattern raw.op ≡ true = sym c.tries_pattern.ensures ∙ c.if-not-tries_pattern.false in
    let next = spec.opens_with c.args.scopes.now c.args.behind (Some (spec.condition_of raw c.args.field (Some (length s.patterns)))) in
    first_stops (by (tries_pattern raw.op)) (makes c.args.file c.args.line false raw.text) next s (state_of c.make.new.loading)
    (kept texts (g.M.PatternMaker.calls c.args.maker.now)) (kept texts (g.M.PatternMaker.calls c.make.new.maker)) c.in-Err.e (λ others. ap (λ (t : Bool). by t s others) tries) (λ x. tt)
    (subst (λ (t : List ℕ). Ran (makes c.args.file c.args.line false t) s (kept texts (g.M.PatternMaker.calls c.args.maker.now)) (kept texts (g.M.PatternMaker.calls c.make.new.maker)) (Err c.in-Err.e) (state_of c.make.new.loading)) c.bytes-2.ensures.value (c.in-Err.ensures.ran texts))
