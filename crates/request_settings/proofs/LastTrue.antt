-- The last place whose block is True.
use Rattle.std.proofs.Common.{◌≡◌, ℕ, suc, Bool, true, false, cond, List, [], ◌∷◌, Option, None, Some, refl, sym, ◌∙◌, ap}
use Rattle.std.specs.Prelude.{slice_get}
use Rattle.conf_value.specs.declared.truth.Truth.{Truth}
use Rattle.conf_value.specs.declared.truth.Truth.TheVariants.{True, False, Unset}
use Rattle.settings.specs.declared.places.Place.{Place}
use Rattle.settings.specs.Indexed.{is_true, or_else, where_true, last_true}

-- it is one of the places, and its block is True
pub record IsHeld (t : ℕ → Truth) (places : List Place) (p : Place) : Type 0 where
  pub at : ℕ
  pub is : slice_get places at ≡ Some p
  pub held : t p.block ≡ True

only_true : (v : Truth) → is_true v ≡ true → v ≡ True
only_true True e = refl
only_true False e = cc
only_true Unset e = cc

pub is_held : (t : ℕ → Truth) (places : List Place) (p : Place) → last_true t places ≡ Some p → IsHeld t places p
is_held t [] p e = absurd (let f : None ≡ Some p = e in cc)
is_held t (q ∷ places) p e = by (λ f. is_held t places p f) (last_true t places) refl e
  where
    first : (b : Bool) → is_true (t q.block) ≡ b → where_true (t q.block) q ≡ Some p → IsHeld t (q ∷ places) p
    first true b f =
        let is : Some q ≡ Some p = sym (ap (λ (c : Bool). cond c (Some q) None) b) ∙ f in
        let same : q ≡ p = cc in
        record { at = 0; is = is; held = ap (λ (r : Place). t r.block) (sym same) ∙ only_true (t q.block) b }
    first false b f = absurd (let none : None ≡ Some p = sym (ap (λ (c : Bool). cond c (Some q) None) b) ∙ f in cc)

    by : (last_true t places ≡ Some p → IsHeld t places p) → (o : Option Place) → last_true t places ≡ o → or_else o (where_true (t q.block) q) ≡ Some p → IsHeld t (q ∷ places) p
    by behind (Some r) is f = let h = behind (is ∙ f) in record { at = suc h.at; is = h.is; held = h.held }
    by behind None is f = first (is_true (t q.block)) refl f
