use Rattle.std.proofs.Common.{◌≡◌, ℕ, ◌+◌, ◌-◌, ◌<◌, suc, true, false, take, length, ap, sym, ◌∙◌, arith}
use Rattle.std.proofs.lemmas.Option.{slice_get-get_or}
use Rattle.conf_value.specs.declared.truth.Truth.{Truth}
use Rattle.conditions.specs.Attributes.{attributes_of}
use Rattle.cond_cache.specs.Kept.{asked}
use Rattle.cond_cache.specs.Truths.{truth_of}
use Rattle.settings.specs.Indexed.{is_true, last_true}
use Rattle.settings.proofs.Last.{last_here, last_before}
use Rattle.request_settings.proofs.Adding.{both_stay}
use Rattle.request_settings.proofs.winning.last_true.Goals as goal

pub returns-in-Ok-True-clause-place : goal.returns-in-Ok-True-clause-place
returns-in-Ok-True-clause-place g c =
    let t = truth_of c.args.config.now.blocks (attributes_of c.args.attrs.now) in
    let ps = c.args.places.now in
    let i = c.loop-left.left - 1 in
    let low : i < length ps = omega (arith, c.loop-left.invariant.few, c.loop-left-test.true) in
    let e : suc i ≡ c.loop-left.left = omega (arith, c.loop-left-test.true) in
    let held = ap is_true (sym c.in-Ok-True.ensures.truth ∙ c.in-Ok-True.field-0-is) in
    sym (last_here t ps i _ (slice_get-get_or ps i _ low) held) ∙ ap (λ (n : ℕ). last_true t (take n ps)) e ∙ c.loop-left.invariant.last

pub loop-left-preserved-in-Ok-False : goal.loop-left-preserved-in-Ok-False
loop-left-preserved-in-Ok-False g c =
    let t = truth_of c.args.config.now.blocks (attributes_of c.args.attrs.now) in
    let ps = c.args.places.now in
    let i = c.loop-left.left - 1 in
    let low : i < length ps = omega (arith, c.loop-left.invariant.few, c.loop-left-test.true) in
    let e : suc i ≡ c.loop-left.left = omega (arith, c.loop-left-test.true) in
    let fails = ap is_true (sym c.in-Ok-False.ensures.truth ∙ c.in-Ok-False.field-0-is) in
    let first = c.loop-left.invariant.steps in
    let then = c.in-Ok-False.ensures.steps in
    record {
      few = omega (arith, c.loop-left.invariant.few);
      right = c.in-Ok-False.ensures.right;
      stay = both_stay c.args.conds.now c.loop-left.conds c.check.new.self c.loop-left.invariant.stay c.in-Ok-False.ensures.stay;
      steps = omega (arith, first, then);
      matchers = c.in-Ok-False.ensures.matchers ∙ c.loop-left.invariant.matchers;
      last = sym (last_before t ps i _ (slice_get-get_or ps i _ low) fails) ∙ ap (λ (n : ℕ). last_true t (take n ps)) e ∙ c.loop-left.invariant.last;
    }

pub loop-left-preserved : goal.loop-left-preserved
loop-left-preserved g c =
    let t = truth_of c.args.config.now.blocks (attributes_of c.args.attrs.now) in
    let ps = c.args.places.now in
    let i = c.loop-left.left - 1 in
    let low : i < length ps = omega (arith, c.loop-left.invariant.few, c.loop-left-test.true) in
    let e : suc i ≡ c.loop-left.left = omega (arith, c.loop-left-test.true) in
    let fails = ap is_true (sym c.in-Ok-Unset.ensures.truth ∙ c.in-Ok-Unset.field-0-is) in
    let first = c.loop-left.invariant.steps in
    let then = c.in-Ok-Unset.ensures.steps in
    record {
      few = omega (arith, c.loop-left.invariant.few);
      right = c.in-Ok-Unset.ensures.right;
      stay = both_stay c.args.conds.now c.loop-left.conds c.check.new.self c.loop-left.invariant.stay c.in-Ok-Unset.ensures.stay;
      steps = omega (arith, first, then);
      matchers = c.in-Ok-Unset.ensures.matchers ∙ c.loop-left.invariant.matchers;
      last = sym (last_before t ps i _ (slice_get-get_or ps i _ low) fails) ∙ ap (λ (n : ℕ). last_true t (take n ps)) e ∙ c.loop-left.invariant.last;
    }
