use Rattle.std.proofs.Common.{◌++◌, ◌∷◌, [], List, ◌∙◌, ap}
use Rattle.cond_cache.specs.declared.place.Place.{Place}
use Rattle.cond_cache.specs.declared.place.Place.TheVariants.{Unasked}
use Rattle.cond_cache.proofs.Places.{one_more}
use Rattle.cond_cache.proofs.conds.unasked.Goals as goal

pub loop-made-preserved : goal.loop-made-preserved
loop-made-preserved c = record { so_far = c.in_ok-push.ensures.ok ∙ ap (λ (l : List Place). l ++ Unasked ∷ []) c.loop-made.invariant.so_far ∙ one_more c.loop-made._made }
