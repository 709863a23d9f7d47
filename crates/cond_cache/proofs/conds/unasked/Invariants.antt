use Rattle.std.proofs.Common.{◌≡◌, replicate}
use Rattle.cond_cache.specs.declared.place.Place.TheVariants.{Unasked}
use Rattle.cond_cache.proofs.conds.unasked.Given as goal

abbrev pub invariant-loop-made : goal.invariant-loop-made
invariant-loop-made l = record { so_far : l.places ≡ replicate l._made Unasked }
