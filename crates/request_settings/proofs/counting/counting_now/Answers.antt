use Rattle.std.proofs.Common.{◌≡◌, ℕ, ◌+◌, ◌<◌, List, length, Some, sym, ◌∙◌, ap, arith}
use Rattle.std.specs.Prelude.{slice_get}
use Rattle.conditions.specs.Attributes.{attributes_of}
use Rattle.cond_cache.specs.Kept.{asked}
use Rattle.cond_cache.specs.Truths.{truth_of}
use Rattle.settings.specs.Indexed.{last_true, places_of, winner}
use Rattle.settings.proofs.Due.{next_due}
use Rattle.settings.proofs.Last.{within}
use Rattle.request_settings.proofs.Adding.{both_stay}
use Rattle.request_settings.proofs.counting.counting_now.Goals as goal

pub last_true-requires-clause-places : goal.last_true-requires-clause-places
last_true-requires-clause-places g c = λ at place is.
    within c.args.config.now.blocks _ at place (sym (ap (λ ps. slice_get ps at) (c.places-places.ensures c.args.config.now.blocks c.requires.index)) ∙ is)

pub loop-key-preserved : goal.loop-key-preserved
loop-key-preserved g c =
    let due = winner c.args.config.now.blocks (truth_of c.args.config.now.blocks (attributes_of c.args.attrs.now)) in
    let here = c.set.ensures.key ∙ c.in-Ok.ensures.place ∙ ap (last_true (truth_of c.args.config.now.blocks (attributes_of c.args.attrs.now))) (c.places-places.ensures c.args.config.now.blocks c.requires.index) in
    let first = c.loop-key.invariant.steps in
    let then = c.in-Ok.ensures.steps in
    record {
      due = next_due due c.args.keys.now c.loop-key.key-index _ c.loop-key.counting c.set.new.self c.loop-key-test.true here c.set.ensures.others c.loop-key.invariant.due;
      right = c.in-Ok.ensures.right;
      stay = both_stay c.args.conds.now c.loop-key.conds c.last_true.new.conds c.loop-key.invariant.stay c.in-Ok.ensures.stay;
      steps = omega (arith, first, then);
      matchers = c.in-Ok.ensures.matchers ∙ c.loop-key.invariant.matchers;
    }
