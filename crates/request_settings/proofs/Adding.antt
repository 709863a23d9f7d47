-- What is kept over several looks at the conditions.
use Rattle.std.proofs.Common.{◌≡◌, ◌≢◌, ℕ, List, Option, None, Some, sym, ◌∙◌, ap}
use Rattle.std.specs.Prelude.{slice_get, option_and_then}
use Rattle.std.proofs.lemmas.Option.{none-some}
use Rattle.conf_value.specs.declared.truth.Truth.{Truth}
use Rattle.cond_cache.specs.declared.place.Place.{Place}
use Rattle.cond_cache.specs.declared.place.Place.TheVariants.{Unasked}
use Rattle.cond_cache.specs.Kept.{Stay, kept, truth_in}
use Rattle.cond_cache.proofs.Places.{kept_as}

pub nothing_new : (places : List Place) → Stay places places
nothing_new places m q e f = e

pub both_stay : (old mid new : List Place) → Stay old mid → Stay mid new → Stay old new
both_stay old mid new first then m q e f = then m q (first m q e f) f

-- a truth that was found stays found
pub stays_kept : (old new : List Place) (n : ℕ) (t : Truth) → Stay old new → kept old n ≡ Some t → kept new n ≡ Some t
stays_kept old new n t stay e =
    let k = kept_as old n t e in
    let asked : k.place ≢ Unasked = (λ same. none-some t (sym (ap truth_in same) ∙ k.truth)) in
    ap (option_and_then truth_in) (stay n k.place k.is asked) ∙ k.truth
