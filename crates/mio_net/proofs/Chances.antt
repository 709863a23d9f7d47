-- Places that are taken, and what stands at them.
use Rattle.std.proofs.Common.{◌≡◌, ℕ, ◌<◌, List, length, get_or, Option, Some, None, IfSome, refl, sym, ◌∙◌, ap, arith, suc, zero}
use Rattle.std.proofs.lemmas.List.{get_or_default}
use Rattle.std.proofs.lemmas.List.Sums.{sum_by-cons}
use Rattle.std.specs.Prelude.{sum_by, replicate}
use Rattle.mio_net.specs.Links.{one}

pub nothing_at : (count place : ℕ) → get_or (replicate {A = Option ℕ} count None) place None ≡ None
nothing_at zero place = refl
nothing_at (suc count) zero = refl
nothing_at (suc count) (suc place) = nothing_at count place

pub none_counted : (count : ℕ) → sum_by one (replicate count None) ≡ 0
none_counted zero = refl
none_counted (suc count) = omega (arith, sum_by-cons one None (replicate count None), none_counted count)

-- what a read gave is what stands there
pub read_some : (held : List (Option ℕ)) (place number : ℕ) (read : Option ℕ) → place < length held → read ≡ get_or held place read → read ≡ Some number → get_or held place None ≡ Some number
read_some held place number read below is some = get_or_default held place None read below ∙ sym is ∙ some

pub if_some_below : (held : Option ℕ) (next : ℕ) → ((number : ℕ) → held ≡ Some number → number < next) → IfSome held (λ number. number < next)
if_some_below None next below = tt
if_some_below (Some number) next below = below number refl

-- no link stands in empty cells, so each that does is below any bound
pub nothing_there : (count bound : ℕ) (held : List (Option ℕ)) → held ≡ replicate count None → (place number : ℕ) → get_or held place None ≡ Some number → number < bound
nothing_there count bound held is place number some = absurd (none_some number (sym (ap (λ (l : List (Option ℕ)). get_or l place None) is ∙ nothing_at count place) ∙ some))
  where
    none_some : (number : ℕ) → None ≡ Some number → ⊥
    none_some number is = cc (is)
