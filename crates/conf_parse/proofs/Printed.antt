-- The printed form of an array and of a chain, one level down.
use Rattle.std.proofs.Common.{◌≡◌, ◌≢◌, ℕ, zero, suc, ◌+◌, ◌-◌, ◌<◌, ◌≤◌, ◌++◌, List, [], ◌∷◌, refl, ap, sym, ◌∙◌, append_assoc, append-nil, arith}
use Rattle.conf_parse.specs.Symbols.{Text}
use Rattle.conf_parse.specs.declared.tree.Item.{Item}
use Rattle.conf_parse.specs.declared.tree.Branch.{Branch}
use Rattle.conf_parse.specs.Print.{array_text, items_of, branches_text, branches_of, body_of, indent, margin}

pub array_none : (d : ℕ) (items : List Item) → d ≡ 0 → array_text d items ≡ []
unfolding array_text
array_none zero items e = refl
array_none (suc d) items e = absurd (omega arith)

pub array_open : (d : ℕ) (items : List Item) → d ≢ 0 → array_text d items ≡ items_of (array_text (d - 1)) items
unfolding array_text
array_open zero items n = absurd (n refl)
array_open (suc d) items n = ap (λ (y : ℕ). items_of (array_text y) items) (let e : d ≡ suc d - 1 = omega arith in e)

pub branches_none : (d : ℕ) (bs : List Branch) → d ≡ 0 → branches_text d bs ≡ []
unfolding branches_text
branches_none zero bs e = refl
branches_none (suc d) bs e = absurd (omega arith)

pub branches_open : (d : ℕ) (bs : List Branch) → d ≢ 0 → branches_text d bs ≡ branches_of d (body_of (d - 1) (branches_text (d - 1))) bs
unfolding branches_text
branches_open zero bs n = absurd (n refl)
branches_open (suc d) bs n = ap (λ (y : ℕ). branches_of (suc d) (body_of y (branches_text y)) bs) (let e : d ≡ suc d - 1 = omega arith in e)

pub margin_none : (d : ℕ) → 64 ≤ d → margin d ≡ []
unfolding indent
margin_none d e = ap indent (let z : 64 - d ≡ 0 = omega arith in z)

pub margin_more : (d : ℕ) → d < 64 → margin d ≡ 32 ∷ 32 ∷ margin (d + 1)
unfolding indent
margin_more d lt = ap indent (let z : 64 - d ≡ suc (64 - (d + 1)) = omega arith in z)

-- two spaces that were written are the first of the margin
pub margin_step : (out new whole : Text) (d : ℕ) → d < 64 → new ≡ out ++ 32 ∷ 32 ∷ [] → out ++ margin d ≡ whole → new ++ margin (d + 1) ≡ whole
margin_step out new whole d lt e h = rw e (append_assoc out (32 ∷ 32 ∷ []) (margin (d + 1)) ∙ ap (λ (y : Text). out ++ y) (sym (margin_more d lt)) ∙ h)

pub margin_end : (out whole : Text) (d : ℕ) → 64 ≤ d → out ++ margin d ≡ whole → out ≡ whole
margin_end out whole d le h = sym (append-nil out) ∙ ap (λ (y : Text). out ++ y) (sym (margin_none d le)) ∙ h
