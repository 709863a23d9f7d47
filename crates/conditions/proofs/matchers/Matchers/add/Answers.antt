use Rattle.std.proofs.Common.{ap, ap₂, arith, ◌∙◌, List, [], ◌∷◌, ◌++◌, length}
use Rattle.std.specs.Prelude.{is_ok}
use Rattle.std.proofs.lemmas.List.{length-map}
use Rattle.conditions.specs.Kept.{marked}
use Rattle.conditions.specs.Marked.{Marked}
use Rattle.conditions.proofs.Keeping.{all_kept, pushed, unpushed}
use Rattle.conditions.proofs.matchers.Matchers.add.Goals as goal
use Rattle.conditions.proofs.matchers.Matchers.add.Goals.{in-Ok, in-Err}

pub invariant_of-self : goal.invariant_of-self
invariant_of-self c = all_kept _ _ _ _ c.push.ensures.items c.self.invariant c.in_ok-kept.ensures.kept

pub returns-clause-ok : goal.returns-clause-ok
returns-clause-ok c = elim c.match-push.branch [
  | in-Ok w ↦ rw w.result-is (pushed _ _ _ _ c.push.ensures.items (ap (λ r. is_ok r) w.in-Ok.is)
      ∙ ap₂ (λ (xs : List Marked) (x : Marked). xs ++ x ∷ []) c.self.view_is c.in_ok-kept.ensures.marked)
  | in-Err w ↦ rw w.result-is tt
]

pub returns-clause-number : goal.returns-clause-number
returns-clause-number c = elim c.match-push.branch [
  | in-Ok w ↦ rw w.result-is (omega (arith, length-map c.self.inside.kept.items marked, ap (λ (xs : List Marked). length xs) c.self.view_is))
  | in-Err w ↦ rw w.result-is tt
]

pub returns-clause-err : goal.returns-clause-err
returns-clause-err c = elim c.match-push.branch [
  | in-Ok w ↦ rw w.result-is tt
  | in-Err w ↦ rw w.result-is (unpushed _ _ _ _ c.push.ensures.items (ap (λ r. is_ok r) w.in-Err.is) ∙ c.self.view_is)
]
