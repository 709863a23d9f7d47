use Rattle.std.proofs.Common.{◌≡◌, ◌<◌, ℕ, length, slice_get, Some}
use Rattle.cond_cache.specs.declared.place.Place.TheVariants.{Unasked}
use Rattle.cond_cache.proofs.conds.empty.Given as goal

abbrev pub invariant-loop-at : goal.invariant-loop-at
invariant-loop-at l = record {
  same : length l.places ≡ length l.initial.places;
  empty : (m : ℕ) → m < l.at → slice_get l.places m ≡ Some Unasked;
}
