use Rattle.std.proofs.Common.{◌≡◌, ℕ, ◌-◌, ◌<◌, suc, take, length, ap, sym, ◌∙◌, arith}
use Rattle.std.proofs.lemmas.Option.{slice_get-get_or}
use Rattle.settings.specs.Indexed.{last_true, truth_in}
use Rattle.settings.proofs.Last.{last_here, last_before}
use Rattle.settings.proofs.counts.last_true.Goals as goal

pub returns-then-is_true : goal.returns-then-is_true
returns-then-is_true c =
    let t = truth_in c.args.truths.now in
    let ps = c.args.places.now in
    let i = c.loop-left.left - 1 in
    let low : i < length ps = omega (arith, c.loop-left.invariant.0, c.loop-left-test.true) in
    let e : suc i ≡ c.loop-left.left = omega (arith, c.loop-left-test.true) in
    sym (last_here t ps i _ (slice_get-get_or ps i _ low) (sym c.is_true.ensures ∙ c.if-is_true.true)) ∙ ap (λ (n : ℕ). last_true t (take n ps)) e ∙ c.loop-left.invariant.1

pub loop-left-preserved : goal.loop-left-preserved
loop-left-preserved c =
    let t = truth_in c.args.truths.now in
    let ps = c.args.places.now in
    let i = c.loop-left.left - 1 in
    let low : i < length ps = omega (arith, c.loop-left.invariant.0, c.loop-left-test.true) in
    let e : suc i ≡ c.loop-left.left = omega (arith, c.loop-left-test.true) in (
      omega (arith, c.loop-left.invariant.0),
      sym (last_before t ps i _ (slice_get-get_or ps i _ low) (sym c.is_true.ensures ∙ c.if-is_true.false)) ∙ ap (λ (n : ℕ). last_true t (take n ps)) e ∙ c.loop-left.invariant.1,
    )
