use Rattle.std.proofs.Common.{◌≡◌, ◌∙◌, ◌++◌, [], ℕ, List, Bool, Ok, Err, length, ◌+◌, ◌≤◌, if◌then◌else◌, ap, sym, subst, refl}
use Rattle.conditions.specs.Marked.{Marked}
use Rattle.conf_value.specs.declared.value.Pair.{Pair}
use Rattle.conf_value.specs.declared.value.Value.{out-Value}
use Rattle.rewrite.specs.Rules.{ArePatterns}
use Rattle.settings.specs.Kinds.{pairs_in}
use Rattle.conf_eval.specs.declared.fault.LoadError.TheVariants as e
use Rattle.conf_eval.specs.Answers.{Ran, kept}
use Rattle.conf_eval.specs.Calls.{Calls}
use Rattle.conf_eval.specs.Kept.{state_of}
use Rattle.conf_eval.specs.Load.{set_with}
use Rattle.conf_eval.specs.Parts.{Part, Reply, Went, makes_rules}
use Rattle.conf_eval.specs.Settings as spec
use Rattle.conf_eval.specs.Settings.{State}
use Rattle.conf_eval.specs.Sound.{marks_of}
use Rattle.conf_eval.proofs.Loads.{first_stops, then_ran, goes, lacks_memory}
use Rattle.conf_eval.proofs.Sounds.{made_behind}
use Rattle.conf_eval.proofs.setting.keep.Goals as goal

pub put-requires-clause-made : goal.put-requires-clause-made
put-requires-clause-made g c rule =
    let ps = c.args.loading.now.built.patterns in
    let rules = pairs_in (out-Value c.args.value) in
    let first : c.first_of-first_pattern.result ≡ length ps = c.first_of-first_pattern.ensures ∙ ap (λ (b : Bool). if b then length ps else 0) rule in
    let made : c.make_rules.new.loading.built.patterns ≡ ps ++ marks_of rules = c.in-Ok.ensures.patterns ∙ ap (λ (l : List Pair). ps ++ marks_of l) (c.rules_of.ensures ∙ ap (λ (b : Bool). if b then rules else []) rule) in
    subst (λ (n : ℕ). ArePatterns c.make_rules.new.loading.built.patterns n rules × (n + length rules ≤ length c.make_rules.new.loading.built.patterns)) (sym first) (made_behind ps c.make_rules.new.loading.built.patterns rules made)

pub returns-in-Ok-put-clause-ran : goal.returns-in-Ok-put-clause-ran
returns-in-Ok-put-clause-ran g c texts =
    let s = state_of c.args.loading.now in
    let mid = state_of c.make_rules.new.loading in
    let file = c.args.file in
    let line = c.args.line in
    let rules = spec.rules_of c.args.key.now c.args.value in
    let earlier = kept texts (g.M.PatternMaker.calls c.args.maker.now) in
    let later = kept texts (g.M.PatternMaker.calls c.make_rules.new.maker) in
    let after : ℕ → Part = λ first made others. Went (spec.keeps file line (spec.innermost c.args.scopes.now) (spec.setting c.args.key.now c.args.value first) c.args.warned made) others in
    then_ran (set_with file line c.args.scopes.now c.args.key.now c.args.value c.args.warned) (makes_rules file line rules) (after (spec.first_of c.args.key.now (length s.patterns))) s mid (state_of c.put.new.loading) earlier later later (Ok tt) (λ others. refl)
    (subst (λ (l : List Pair). Ran (makes_rules file line l) s earlier later (Ok tt) mid) c.rules_of.ensures (c.in-Ok.ensures.ran texts))
    (goes (after (spec.first_of c.args.key.now (length s.patterns))) mid (state_of c.put.new.loading) later
    (λ others. ap (λ (n : ℕ). after n mid others) (sym c.first_of-first_pattern.ensures) ∙ ap (λ (x : State). Went x others) (sym c.in-Ok-put.ensures.put)))

pub returns-in-Err-put-clause-ran : goal.returns-in-Err-put-clause-ran
returns-in-Err-put-clause-ran g c texts =
    let s = state_of c.args.loading.now in
    let mid = state_of c.make_rules.new.loading in
    let file = c.args.file in
    let line = c.args.line in
    let rules = spec.rules_of c.args.key.now c.args.value in
    let earlier = kept texts (g.M.PatternMaker.calls c.args.maker.now) in
    let later = kept texts (g.M.PatternMaker.calls c.make_rules.new.maker) in
    let after : Part = λ made others. Went (spec.keeps file line (spec.innermost c.args.scopes.now) (spec.setting c.args.key.now c.args.value (spec.first_of c.args.key.now (length s.patterns))) c.args.warned made) others in
    then_ran (set_with file line c.args.scopes.now c.args.key.now c.args.value c.args.warned) (makes_rules file line rules) after s mid (state_of c.put.new.loading) earlier later later (Err e.NoMemory) (λ others. refl)
    (subst (λ (l : List Pair). Ran (makes_rules file line l) s earlier later (Ok tt) mid) c.rules_of.ensures (c.in-Ok.ensures.ran texts))
    (lacks_memory after mid (state_of c.put.new.loading) later tt)

pub returns-in-Err-clause-ran : goal.returns-in-Err-clause-ran
returns-in-Err-clause-ran g c texts =
    let s = state_of c.args.loading.now in
    let file = c.args.file in
    let line = c.args.line in
    let rules = spec.rules_of c.args.key.now c.args.value in
    let earlier = kept texts (g.M.PatternMaker.calls c.args.maker.now) in
    let later = kept texts (g.M.PatternMaker.calls c.make_rules.new.maker) in
    let after : Part = λ made others. Went (spec.keeps file line (spec.innermost c.args.scopes.now) (spec.setting c.args.key.now c.args.value (spec.first_of c.args.key.now (length s.patterns))) c.args.warned made) others in
    first_stops (set_with file line c.args.scopes.now c.args.key.now c.args.value c.args.warned) (makes_rules file line rules) after s (state_of c.make_rules.new.loading) earlier later c.in-Err.e (λ others. refl) (λ x. tt)
    (subst (λ (l : List Pair). Ran (makes_rules file line l) s earlier later (Err c.in-Err.e) (state_of c.make_rules.new.loading)) c.rules_of.ensures (c.in-Err.ensures.ran texts))
