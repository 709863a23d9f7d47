use Rattle.std.proofs.Common.{List, length, slice_get, ◌∙◌, ap, arith}
use Rattle.std.proofs.lemmas.List.{length-set}
use Rattle.cond_cache.specs.declared.place.Place.{Place}
use Rattle.cond_cache.specs.declared.place.Place.TheVariants.{Unasked}
use Rattle.cond_cache.proofs.Places.{all_unasked, emptied_next}
use Rattle.cond_cache.proofs.conds.empty.Goals as goal

pub loop-at-preserved : goal.loop-at-preserved
loop-at-preserved c = record {
  same = ap (λ (l : List Place). length l) c.replace.ensures.rest ∙ length-set c.loop-at.places c.loop-at.at Unasked ∙ c.loop-at.invariant.same;
  empty = λ m l. ap (λ (l : List Place). slice_get l m) c.replace.ensures.rest
      ∙ emptied_next c.loop-at.places c.loop-at.at (omega (arith, c.loop-at-test.true, c.len-at-end.ensures, c.loop-at.invariant.same)) c.loop-at.invariant.empty m l;
}

pub returns : goal.returns
returns c = all_unasked (length c.args.places.now) c.loop-at.places c.loop-at.invariant.same (λ m l. c.loop-at.invariant.empty m (omega (arith, l, c.loop-at-test.false, c.len-at-end.ensures)))
