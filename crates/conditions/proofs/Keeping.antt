-- The list of what is kept for the patterns, and the groups that are copied one by one.
use Rattle.std.proofs.Common.{◌≡◌, ℕ, zero, suc, ◌+◌, ◌-◌, ◌<◌, ◌≤◌, Bool, true, false, List, [], ◌∷◌, ◌++◌, map, length, get_or, Some, All, sym, refl, ap, ◌∙◌, subst, arith, if◌then◌else◌}
use Rattle.std.specs.Prelude.{slice_get}
use Rattle.std.specs.List.{range_with_len}
use Rattle.std.proofs.lemmas.List.{map-append}
use Rattle.std.proofs.lemmas.List.Elements.{All-push}
use Rattle.std.proofs.lemmas.List.FromFn.{map-range_with_len_more}
use Rattle.std.proofs.lemmas.Option.{same_Some}
use Rattle.conditions.specs.Kept.{IsKept, marked}
use Rattle.conditions.specs.Marked.{Marked}
use Rattle.conditions.specs.declared.kept.Kept.{Kept}

pub all_kept : (b : Bool) (old new : List Kept) (k : Kept) → new ≡ (if b then old ++ k ∷ [] else old) → All IsKept old → IsKept k → All IsKept new
all_kept true old new k e all is = subst (All IsKept) (sym e) (All-push IsKept old k all is)
all_kept false old new k e all is = subst (All IsKept) (sym e) all

pub pushed : (b : Bool) (old new : List Kept) (k : Kept) → new ≡ (if b then old ++ k ∷ [] else old) → b ≡ true → map marked new ≡ map marked old ++ marked k ∷ []
pushed b old new k e is = ap (map marked) (e ∙ ap (λ b. if b then old ++ k ∷ [] else old) is) ∙ map-append marked old (k ∷ [])

pub unpushed : (b : Bool) (old new : List Kept) (k : Kept) → new ≡ (if b then old ++ k ∷ [] else old) → b ≡ false → map marked new ≡ map marked old
unpushed b old new k e is = ap (map marked) (e ∙ ap (λ b. if b then old ++ k ∷ [] else old) is)

-- what is said of the pattern with a number is said of what is kept for it
pub mark_at : (items : List Kept) (n : ℕ) (k : Kept) (t : Marked) → k ≡ get_or items n k → slice_get (map marked items) n ≡ Some t → n < length items → marked k ≡ t
mark_at [] n k t e there low = absurd (omega arith)
mark_at (x ∷ items) zero k t e there low = ap marked e ∙ same_Some _ _ there
mark_at (x ∷ items) (suc n) k t e there low = mark_at items n k t e there (omega arith)

pub one_more : (old new : List (List ℕ)) (whole text : List ℕ) (f : ℕ → List ℕ) (n : ℕ) → 1 ≤ n → new ≡ old ++ text ∷ [] → old ≡ whole ∷ map f (range_with_len 1 (n - 1)) → text ≡ f n
    → new ≡ whole ∷ map f (range_with_len 1 (n + 1 - 1))
one_more old new whole text f n some e so_far here =
    let more : 1 + (n - 1) ≡ n = omega arith in
    let next : n - 1 + 1 ≡ n + 1 - 1 = omega arith in
    e ∙ ap (λ (xs : List (List ℕ)). xs ++ text ∷ []) so_far ∙ ap (λ (x : List ℕ). whole ∷ (map f (range_with_len 1 (n - 1)) ++ x ∷ [])) here
    ∙ ap (λ (xs : List (List ℕ)). whole ∷ xs) (sym (map-range_with_len_more f 1 (n - 1) n more)) ∙ ap (λ (k : ℕ). whole ∷ map f (range_with_len 1 k)) next

pub all_copied : (groups : List (List ℕ)) (whole : List ℕ) (f : ℕ → List ℕ) (n : ℕ) → n ≡ 10 → groups ≡ whole ∷ map f (range_with_len 1 (n - 1)) → groups ≡ whole ∷ map f (range_with_len 1 9)
all_copied groups whole f n e all =
    let nine : n - 1 ≡ 9 = omega arith in all ∙ ap (λ (k : ℕ). whole ∷ map f (range_with_len 1 k)) nine
