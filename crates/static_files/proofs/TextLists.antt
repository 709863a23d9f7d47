-- The texts of an array, one pair after another.
use Rattle.std.proofs.Common.{◌≡◌, ℕ, suc, ◌+◌, ◌<◌, List, ◌∷◌, ◌||◌, Option, Some, None, refl, sym, ap, ◌∙◌, drop, length, get_or, add-one, drop-cons}
use Rattle.conf_value.specs.declared.value.Pair.{Pair}
use Rattle.static_files.specs.Locations.{ends_in_text, is_excluded}
use Rattle.static_files.specs.Texts.{text_in, with_text, texts_of}

-- the pairs that are left begin with the one at hand
at_pair : (pairs : List Pair) (i : ℕ) (pair : Pair) → i < length pairs → pair ≡ get_or pairs i pair → texts_of (drop i pairs) ≡ with_text (text_in pair) (texts_of (drop (i + 1) pairs))
at_pair pairs i pair lt is = ap texts_of (drop-cons pairs i pair lt ∙ ap (λ x. x ∷ drop (suc i) pairs) (sym is) ∙ ap (λ n. pair ∷ drop n pairs) (sym (add-one i)))

-- a text is the first of those that are left
pub with_one : (pairs : List Pair) (i : ℕ) (pair : Pair) (text : List ℕ) → i < length pairs → pair ≡ get_or pairs i pair → Some text ≡ text_in pair → texts_of (drop i pairs) ≡ text ∷ texts_of (drop (i + 1) pairs)
with_one pairs i pair text lt is some = at_pair pairs i pair lt is ∙ ap (λ t. with_text t (texts_of (drop (i + 1) pairs))) (sym some)

-- a pair without a text counts for nothing
pub with_none : (pairs : List Pair) (i : ℕ) (pair : Pair) → i < length pairs → pair ≡ get_or pairs i pair → None ≡ text_in pair → texts_of (drop i pairs) ≡ texts_of (drop (i + 1) pairs)
with_none pairs i pair lt is none = at_pair pairs i pair lt is ∙ ap (λ t. with_text t (texts_of (drop (i + 1) pairs))) (sym none)

-- one more text
excluded_by : (t : Option (List ℕ)) (path : List ℕ) (rest : List (List ℕ)) → is_excluded (with_text t rest) path ≡ (ends_in_text path t || is_excluded rest path)
excluded_by None path rest = refl
excluded_by (Some text) path rest = refl

pub excluded_at : (pairs : List Pair) (path : List ℕ) (i : ℕ) (pair : Pair) → i < length pairs → pair ≡ get_or pairs i pair
    → is_excluded (texts_of (drop i pairs)) path ≡ (ends_in_text path (text_in pair) || is_excluded (texts_of (drop (i + 1) pairs)) path)
excluded_at pairs path i pair lt is = ap (λ texts. is_excluded texts path) (at_pair pairs i pair lt is) ∙ excluded_by (text_in pair) path (texts_of (drop (i + 1) pairs))
