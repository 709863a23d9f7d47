use Rattle.std.proofs.Common.{◌≡◌, ◌≤◌, ◌++◌, List, take, drop}
use Rattle.lt_world.specs.declared.texts.Fetch.{Fetch}
use Rattle.conf_eval.specs.Answers.{kept}
use Rattle.conf_eval.specs.Kept.{state_of}
use Rattle.conf_eval.specs.Parts as spec
use Rattle.conf_eval.specs.Sound.{marks_of}
use Rattle.conf_eval.proofs.Loads.{SoFar}
use Rattle.conf_eval.proofs.making.make_rules.Given as goal

-- The rules so far have their patterns, and what is left comes to what the whole comes to.
abbrev pub invariant-loop-rule : goal.invariant-loop-rule
invariant-loop-rule g l = record {
  ran : (texts : List Fetch) → SoFar (spec.makes_rules l.file l.line l.rules) (spec.makes_rules l.file l.line (drop l.rule-index l.rules)) (state_of l.initial.loading)
      (kept texts (g.M.PatternMaker.calls l.initial.maker)) (kept texts (g.M.PatternMaker.calls l.maker)) (state_of l.loading);
  patterns : l.loading.built.patterns ++ marks_of (drop l.rule-index l.rules) ≡ l.initial.loading.built.patterns ++ marks_of l.rules;
  blocks : l.loading.built.blocks ≡ l.initial.loading.built.blocks;
  refusals : g.M.PatternMaker.refusals l.initial.maker ≤ g.M.PatternMaker.refusals l.maker;
}
