use Rattle.std.proofs.Common.{◌≡◌, ◌-◌, ℕ, suc, [], ◌∷◌, Bool, false, drop, drop-cons, ap, sym, ◌∙◌, arith}
use Rattle.std.specs.List.{list_all}
use Rattle.std.proofs.lemmas.Grind.{common_steps}
use Rattle.conf_value.specs.declared.value.Pair.{Pair}
use Rattle.settings.specs.Checking.{are_short, pair_is_short}
use Rattle.settings.proofs.Texts.{none_deep, one_deep, all_fails}
use Rattle.settings.proofs.short.+short.Goals as goal

abbrev fits : ℕ → Pair → Bool
fits d = pair_is_short (are_short (d - 1))

pub are_short-returns-then-depth-eq0 : goal.are_short-returns-then-depth-eq0
are_short-returns-then-depth-eq0 t c = sym (none_deep c.args.depth c.args.pairs.now c.if-depth-eq0.true)

pub are_short-returns-then-not-pair_is_short : goal.are_short-returns-then-not-pair_is_short
are_short-returns-then-not-pair_is_short t c =
    let i = c.loop-pair.pair-index in
    let ps = c.args.pairs.now in
    let p : drop i ps ≡ c.pair-item.result ∷ drop (suc i) ps = drop-cons ps i c.pair-item.result (omega arith) ∙ ap (λ (y : Pair). y ∷ drop (suc i) ps) (sym c.pair-item.is) in
    let f : fits c.args.depth c.pair-item.result ≡ false = sym c.pair_is_short.ensures ∙ c.if-not-pair_is_short.true in
    sym (one_deep c.args.depth ps c.if-depth-eq0.false ∙ sym c.loop-pair.invariant ∙ all_fails (fits c.args.depth) (drop i ps) (drop (suc i) ps) c.pair-item.result p f)

pub are_short-returns : goal.are_short-returns
are_short-returns t c =
    let e : drop c.loop-pair.pair-index c.args.pairs.now ≡ [] = grind (arith, common_steps) in
    sym (one_deep c.args.depth c.args.pairs.now c.if-depth-eq0.false ∙ sym c.loop-pair.invariant ∙ ap (list_all (fits c.args.depth)) e)
