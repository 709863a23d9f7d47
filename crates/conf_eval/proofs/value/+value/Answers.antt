use Rattle.std.proofs.Common.{◌≡◌, ◌∙◌, ◌+◌, ℕ, suc, List, ◌∷◌, drop, drop-cons, ap, sym, arith}
use Rattle.conf_parse.specs.declared.tree.Term.{Term}
use Rattle.conf_eval.specs.Kept.{look}
use Rattle.conf_eval.specs.Values as spec
use Rattle.conf_eval.proofs.Evaluated.{array_none, array_open, sum_goes, sum_stops}
use Rattle.conf_eval.proofs.value.+value.Goals as goal

pub array-returns-then-room-eq0 : goal.array-returns-then-room-eq0
array-returns-then-room-eq0 t c = array_none (look c.args.scope.now) c.args.room c.args.items.now c.if-room-eq0.true

pub array-returns : goal.array-returns
array-returns t c = rw (array_open (look c.args.scope.now) c.args.room c.args.items.now c.if-room-eq0.false) c.all_items.ensures

pub sum-loop-other-preserved : goal.sum-loop-other-preserved
sum-loop-other-preserved t c =
    let i = c.loop-other.other-index in
    let xs = c.in-Some.others.now in
    let next : suc i ≡ i + 1 = omega arith in
    let p : drop i xs ≡ c.other-item.result ∷ drop (i + 1) xs = drop-cons xs i c.other-item.result (omega arith) ∙ ap (λ (y : Term). y ∷ drop (suc i) xs) (sym c.other-item.is) ∙ ap (λ (n : ℕ). c.other-item.result ∷ drop n xs) next in
    sum_goes (look c.args.scope.now) (spec.array_value (look c.args.scope.now) c.args.room) c.in_ok-value.value c.loop-other.value xs (drop i xs) (drop (i + 1) xs) c.other-item.result p c.loop-other.invariant
    c.in-Ok.sum (c.in-Ok.ensures (spec.term_value (look c.args.scope.now) c.args.room c.other-item.result) c.term-next.ensures)

pub sum-returns-in-Err : goal.sum-returns-in-Err
sum-returns-in-Err t c =
    let i = c.loop-other.other-index in
    let xs = c.in-Some.others.now in
    let p : drop i xs ≡ c.other-item.result ∷ drop (suc i) xs = drop-cons xs i c.other-item.result (omega arith) ∙ ap (λ (y : Term). y ∷ drop (suc i) xs) (sym c.other-item.is) in
    sum_stops (look c.args.scope.now) (spec.array_value (look c.args.scope.now) c.args.room) c.in_ok-value.value c.loop-other.value xs (drop i xs) (drop (suc i) xs) c.other-item.result p c.loop-other.invariant
    c.args.terms.now c.in-Some.first.now c.in-Err.halt c.in-Some.ensures.cases.0 c.in_ok-value.ensures (c.in-Err.ensures (spec.term_value (look c.args.scope.now) c.args.room c.other-item.result) c.term-next.ensures)
