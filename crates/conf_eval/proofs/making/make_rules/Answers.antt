use Rattle.std.proofs.Common.{◌≡◌, ◌≤◌, ◌<◌, ◌∙◌, ℕ, suc, ◌+◌, List, [], ◌∷◌, ◌++◌, true, length, drop, drop-cons, ap, sym, refl, append_assoc, arith}
use Rattle.std.proofs.lemmas.List.{drop_all}
use Rattle.lt_world.specs.declared.texts.Fetch.{Fetch}
use Rattle.conf_value.specs.declared.value.Pair.{Pair}
use Rattle.conditions.specs.Marked.{Marked}
use Rattle.conf_eval.specs.Answers.{kept}
use Rattle.conf_eval.specs.Kept.{state_of}
use Rattle.conf_eval.specs.Parts as spec
use Rattle.conf_eval.specs.Settings.{pattern_of}
use Rattle.conf_eval.specs.Sound.{marks_of}
use Rattle.conf_eval.proofs.Courses.{BeginsBy, beginning}
use Rattle.conf_eval.proofs.Induction as all
use Rattle.conf_eval.proofs.Loads.{so_far_none, so_far_step, so_far_stops, so_far_end}
use Rattle.conf_eval.proofs.making.make_rules.Goals as goal

pub loop-rule-init : goal.loop-rule-init
loop-rule-init g c = record {
  ran = λ texts. so_far_none (spec.makes_rules c.args.file c.args.line c.args.rules.now) (state_of c.args.loading.now) (kept texts (g.M.PatternMaker.calls c.args.maker.now));
  patterns = refl;
  blocks = refl;
  refusals = omega arith;
}

pub returns-in-Err-clause-ran : goal.returns-in-Err-clause-ran
returns-in-Err-clause-ran g c texts =
    let i = c.loop-rule.rule-index in
    let xs = c.args.rules.now in
    let file = c.args.file in
    let line = c.args.line in
    let now = state_of c.loop-rule.loading in
    let p : drop i xs ≡ c.rule-item.result ∷ drop (suc i) xs = drop-cons xs i c.rule-item.result (omega arith) ∙ ap (λ (y : Pair). y ∷ drop (suc i) xs) (sym c.rule-item.is) in
    so_far_stops (spec.makes_rules file line xs) (spec.makes_rules file line (drop i xs)) (state_of c.args.loading.now) now (kept texts (g.M.PatternMaker.calls c.args.maker.now)) (kept texts (g.M.PatternMaker.calls c.loop-rule.maker))
    (spec.makes file line true c.text_of.result.now) (spec.makes_rules file line (drop (suc i) xs)) (kept texts (g.M.PatternMaker.calls c.make.new.maker)) (state_of c.make.new.loading) (c.loop-rule.invariant.ran texts)
    (λ others. ap (λ (l : List Pair). spec.makes_rules file line l now others) p ∙ ap (λ (t : List ℕ). spec.goes_on (spec.makes file line true t now others) (spec.makes_rules file line (drop (suc i) xs))) (sym c.text_of.ensures))
    (all.rules BeginsBy beginning file line (drop (suc i) xs)) c.in-Err.e (c.in-Err.ensures.ran texts)

pub loop-rule-preserved : goal.loop-rule-preserved
loop-rule-preserved g c =
    let i = c.loop-rule.rule-index in
    let xs = c.args.rules.now in
    let file = c.args.file in
    let line = c.args.line in
    let now = state_of c.loop-rule.loading in
    let next : suc i ≡ i + 1 = omega arith in
    let p : drop i xs ≡ c.rule-item.result ∷ drop (i + 1) xs = drop-cons xs i c.rule-item.result (omega arith) ∙ ap (λ (y : Pair). y ∷ drop (suc i) xs) (sym c.rule-item.is) ∙ ap (λ (n : ℕ). c.rule-item.result ∷ drop n xs) next in
    record {
      ran = λ texts. so_far_step (spec.makes_rules file line xs) (spec.makes_rules file line (drop i xs)) (state_of c.args.loading.now) now (kept texts (g.M.PatternMaker.calls c.args.maker.now)) (kept texts (g.M.PatternMaker.calls c.loop-rule.maker))
          (spec.makes file line true c.text_of.result.now) (spec.makes_rules file line (drop (i + 1) xs)) (kept texts (g.M.PatternMaker.calls c.make.new.maker)) (state_of c.make.new.loading) (c.loop-rule.invariant.ran texts)
          (λ others. ap (λ (l : List Pair). spec.makes_rules file line l now others) p ∙ ap (λ (t : List ℕ). spec.goes_on (spec.makes file line true t now others) (spec.makes_rules file line (drop (i + 1) xs))) (sym c.text_of.ensures))
          (c.in-Ok.ensures.ran texts);
      patterns = ap (λ (l : List Marked). l ++ marks_of (drop (i + 1) xs)) c.in-Ok.ensures.patterns ∙ append_assoc c.loop-rule.loading.built.patterns ((c.text_of.result.now, true) ∷ []) (marks_of (drop (i + 1) xs))
          ∙ ap (λ (t : List ℕ). c.loop-rule.loading.built.patterns ++ (t, true) ∷ marks_of (drop (i + 1) xs)) c.text_of.ensures ∙ ap (λ (l : List Pair). c.loop-rule.loading.built.patterns ++ marks_of l) (sym p) ∙ c.loop-rule.invariant.patterns;
      blocks = c.in-Ok.ensures.blocks ∙ c.loop-rule.invariant.blocks;
      refusals = omega (arith, c.loop-rule.invariant.refusals, c.in-Ok.ensures.refusals);
    }

pub returns-clause-ran : goal.returns-clause-ran
returns-clause-ran g c texts =
    let i = c.loop-rule.rule-index in
    let xs = c.args.rules.now in
    let now = state_of c.loop-rule.loading in
    so_far_end (spec.makes_rules c.args.file c.args.line xs) (spec.makes_rules c.args.file c.args.line (drop i xs)) (state_of c.args.loading.now) now (kept texts (g.M.PatternMaker.calls c.args.maker.now)) (kept texts (g.M.PatternMaker.calls c.loop-rule.maker)) (c.loop-rule.invariant.ran texts)
    (λ others. ap (λ (l : List Pair). spec.makes_rules c.args.file c.args.line l now others) (drop_all i xs (omega arith)))
