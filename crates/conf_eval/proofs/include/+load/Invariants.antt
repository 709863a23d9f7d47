use Rattle.std.proofs.Common.{◌≡◌, ◌≤◌, ◌+◌, ◌*◌, None, drop}
use Rattle.conf_eval.specs.Answers.{kept}
use Rattle.conf_eval.specs.Kept.{state_of}
use Rattle.conf_eval.specs.Load as spec
use Rattle.conf_eval.specs.Sound.{AreOpen, Grows, StandsBehind}
use Rattle.conf_eval.proofs.Loads.{SoFar}
use Rattle.conf_eval.proofs.include.+load.Given as goal

abbrev pub decreases-text : goal.decreases-text
decreases-text g l = 1000 * l.depth + 900

abbrev pub decreases-branches : goal.decreases-branches
decreases-branches g l = 1000 * l.depth + (10 * l.room + 5)

abbrev pub decreases-branch : goal.decreases-branch
decreases-branch g l = 1000 * l.depth + (10 * l.room + 4)

abbrev pub decreases-statements : goal.decreases-statements
decreases-statements g l = 1000 * l.depth + (10 * l.room + 3)

abbrev pub decreases-statement : goal.decreases-statement
decreases-statement g l = 1000 * l.depth + (10 * l.room + 2)

abbrev pub decreases-chain : goal.decreases-chain
decreases-chain g l = 1000 * l.depth + (10 * l.room + 1)

abbrev pub decreases-include_value : goal.decreases-include_value
decreases-include_value g l = 1000 * l.depth + 1

abbrev pub decreases-include : goal.decreases-include
decreases-include g l = 1000 * l.depth

-- The calls so far, and that whatever calls come after, the whole on all of them is what is left on those that follow.
abbrev pub invariant-statements-loop-one : goal.invariant-statements-loop-one
invariant-statements-loop-one g l = record {
  same : g.X.Texts.tells → g.X.Texts.texts l.texts ≡ g.X.Texts.texts l.initial.texts;
  ran : g.X.Texts.tells → SoFar (spec.statements (g.X.Texts.texts l.initial.texts) l.depth l.room l.file l.scopes l.statements) (spec.statements (g.X.Texts.texts l.initial.texts) l.depth l.room l.file l.scopes (drop l.one-index l.statements))
      (state_of l.initial.loading) (kept (g.X.Texts.calls l.initial.texts) (g.M.PatternMaker.calls l.initial.maker)) (kept (g.X.Texts.calls l.texts) (g.M.PatternMaker.calls l.maker)) (state_of l.loading);
  grows : Grows l.initial.loading.built.blocks l.loading.built.blocks;
  opened : AreOpen l.scopes l.loading.built.blocks;
  faults : g.X.Texts.faults l.initial.texts ≤ g.X.Texts.faults l.texts;
  refusals : g.M.PatternMaker.refusals l.initial.maker ≤ g.M.PatternMaker.refusals l.maker;
}

-- The same of branches, of which the next stands behind this one.
abbrev pub invariant-branches-loop-one : goal.invariant-branches-loop-one
invariant-branches-loop-one g l = record {
  same : g.X.Texts.tells → g.X.Texts.texts l.texts ≡ g.X.Texts.texts l.initial.texts;
  ran : g.X.Texts.tells → SoFar (spec.branches (g.X.Texts.texts l.initial.texts) l.depth l.room l.file l.scopes None l.all) (spec.branches (g.X.Texts.texts l.initial.texts) l.depth l.room l.file l.scopes l.behind (drop l.one-index l.all))
      (state_of l.initial.loading) (kept (g.X.Texts.calls l.initial.texts) (g.M.PatternMaker.calls l.initial.maker)) (kept (g.X.Texts.calls l.texts) (g.M.PatternMaker.calls l.maker)) (state_of l.loading);
  grows : Grows l.initial.loading.built.blocks l.loading.built.blocks;
  opened : AreOpen l.scopes l.loading.built.blocks;
  behind : StandsBehind l.behind l.scopes l.loading.built.blocks;
  faults : g.X.Texts.faults l.initial.texts ≤ g.X.Texts.faults l.texts;
  refusals : g.M.PatternMaker.refusals l.initial.maker ≤ g.M.PatternMaker.refusals l.maker;
}
