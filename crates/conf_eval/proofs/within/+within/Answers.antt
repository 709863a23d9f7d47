use Rattle.std.proofs.Common.{◌≡◌, ◌-◌, ℕ, suc, [], ◌∷◌, Bool, false, drop, drop-cons, ap, sym, ◌∙◌, arith}
use Rattle.std.specs.List.{list_all}
use Rattle.std.proofs.lemmas.Grind.{common_steps}
use Rattle.conf_value.specs.declared.value.Pair.{Pair, out-Pair}
use Rattle.conf_value.specs.declared.value.Value.{out-Value}
use Rattle.conf_eval.specs.Values.{array_within, value_is_within}
use Rattle.conf_eval.proofs.Evaluated.{within_none, within_open, all_fails}
use Rattle.conf_eval.proofs.within.+within.Goals as goal

abbrev fits : ℕ → Pair → Bool
fits d p = value_is_within (array_within (d - 1)) (out-Value (out-Pair p).value)

pub is_array_within-returns-then-depth-eq0 : goal.is_array_within-returns-then-depth-eq0
is_array_within-returns-then-depth-eq0 t c = sym (within_none c.args.depth c.args.pairs.now c.if-depth-eq0.true)

pub is_array_within-returns-then-not-is_within : goal.is_array_within-returns-then-not-is_within
is_array_within-returns-then-not-is_within t c =
    let i = c.loop-pair.pair-index in
    let ps = c.args.pairs.now in
    let p : drop i ps ≡ c.pair-item.result ∷ drop (suc i) ps = drop-cons ps i c.pair-item.result (omega arith) ∙ ap (λ (y : Pair). y ∷ drop (suc i) ps) (sym c.pair-item.is) in
    let f : fits c.args.depth c.pair-item.result ≡ false = sym c.is_within.ensures ∙ c.if-not-is_within.true in
    sym (within_open c.args.depth ps c.if-depth-eq0.false ∙ sym c.loop-pair.invariant ∙ all_fails (fits c.args.depth) (drop i ps) (drop (suc i) ps) c.pair-item.result p f)

pub is_array_within-returns : goal.is_array_within-returns
is_array_within-returns t c =
    let e : drop c.loop-pair.pair-index c.args.pairs.now ≡ [] = grind (arith, common_steps) in
    sym (within_open c.args.depth c.args.pairs.now c.if-depth-eq0.false ∙ sym c.loop-pair.invariant ∙ ap (list_all (fits c.args.depth)) e)
