-- The last element of the front of a list.
use Rattle.std.proofs.Common.{◌≡◌, ℕ, ◌+◌, ◌-◌, ◌<◌, ◌≤◌, List, [], ◌∷◌, ◌++◌, length, take, get_or, sym, ◌∙◌, ap, arith}
use Rattle.std.proofs.lemmas.List.{take_more}

pub one_more : {X : Type 0} → (xs : List X) (i : ℕ) (x : X) → 0 < i → i ≤ length xs → x ≡ get_or xs (i - 1) x → take i xs ≡ take (i - 1) xs ++ x ∷ []
one_more xs i x some below is =
    let e : i ≡ (i - 1) + 1 = omega arith in
    ap (λ n. take n xs) e ∙ take_more xs (i - 1) x (omega arith) ∙ ap (λ p. take (i - 1) xs ++ p ∷ []) (sym is)
