-- Where a mark stands in a list of bytes.
use Rattle.std.proofs.Common.{◌≡◌, ℕ, Bool, true, false, cond, ltb, List, length, Option, Some, None, refl, arith}
use Rattle.std.specs.Prelude.{unwrap_or, not}
use Rattle.std.specs.List.{position_or_len}
use Rattle.std.proofs.lemmas.Bool.{ltb-false}
use Rattle.std.proofs.lemmas.List.Sums.{prefix_len-le-length}

-- the answer of `position`, with the length where there is none
pub position_or_length : (test : ℕ → Bool) (bytes : List ℕ) (found : Option ℕ)
    → found ≡ cond (ltb (position_or_len test bytes) (length bytes)) (Some (position_or_len test bytes)) None
    → unwrap_or found (length bytes) ≡ position_or_len test bytes
position_or_length test bytes found e =
    rw e (by (ltb (position_or_len test bytes) (length bytes)) refl)
  where
    by : (t : Bool) → ltb (position_or_len test bytes) (length bytes) ≡ t
        → unwrap_or (cond t (Some (position_or_len test bytes)) None) (length bytes) ≡ position_or_len test bytes
    by true h = refl
    by false h = omega (arith, ltb-false (position_or_len test bytes) (length bytes) h, prefix_len-le-length (λ b. not (test b)) bytes)
