use Rattle.std.proofs.Common.{◌≡◌, ◌<◌, ap, sym, subst, ◌∙◌, List, Some, length, arith}
use Rattle.std.specs.Prelude.{slice_get}
use Rattle.std.proofs.lemmas.List.{length-map}
use Rattle.std.proofs.lemmas.List.Elements.{All-set}
use Rattle.std.proofs.Math.Seq.{map-set_same}
use Rattle.conditions.specs.Kept.{IsKept, marked}
use Rattle.conditions.specs.Marked.{Marked}
use Rattle.conditions.proofs.Keeping.{mark_at}
use Rattle.conditions.proofs.matchers.Matchers.is_found.Goals as goal

pub invariant_of-self : goal.invariant_of-self
invariant_of-self c = All-set IsKept c.self.inside.kept.items c.args.pattern c.is_found.new.kept c.is_found.ensures.kept c.self.invariant

pub returns-clause-found : goal.returns-clause-found
returns-clause-found c = λ text rule there.
    let named = subst (λ (xs : List Marked). slice_get xs c.args.pattern ≡ Some (text, rule)) (sym c.self.view_is) there in
    let low : c.args.pattern < length c.self.inside.kept.items =
    omega (arith, c.requires, ap (λ (xs : List Marked). length xs) c.self.view_is, length-map c.self.inside.kept.items marked) in
    let is = mark_at c.self.inside.kept.items c.args.pattern c.index_mut.result.now (text, rule) c.index_mut.ensures.value named low in
    rw (ap (λ (m : Marked). m.0) is) at c.is_found.ensures.found

pub returns-clause-same : goal.returns-clause-same
returns-clause-same c =
    map-set_same marked c.self.inside.kept.items c.args.pattern _ _ (c.is_found.ensures.same ∙ ap marked c.index_mut.ensures.value) ∙ c.self.view_is
