-- What is kept for a link, after a change of the table.
use Rattle.std.proofs.Common.{◌≡◌, ◌≢◌, ℕ, List, [], ◌∷◌, ◌++◌, Some, None, refl, sym, ◌∙◌, ap, arith}
use Rattle.std.proofs.lemmas.Bool.Decides.{nat_tests}
use Rattle.server_model.specs.Held.{Held, kept_at, IsEachOnce}

pub kept_at-append : (link : ℕ) (xs ys : List Held) → kept_at link xs ≡ None → kept_at link (xs ++ ys) ≡ kept_at link ys
kept_at-append link [] ys none = refl
kept_at-append link (x ∷ xs) ys none = grind (arith, nat_tests, kept_at-append link xs ys)

pub kept_at-first : (link : ℕ) (held : Held) (ys : List Held) → held.link ≡ link → kept_at link (held ∷ ys) ≡ Some held
kept_at-first link held ys is = grind (arith, nat_tests)

pub kept_at-past : (link : ℕ) (held : Held) (ys : List Held) → held.link ≢ link → kept_at link (held ∷ ys) ≡ kept_at link ys
kept_at-past link held ys apart = grind (arith, nat_tests)

-- another in its place
module _ (old new : Held) (ys : List Held) (same : new.link ≡ old.link) where
  pub kept_at-replace_other : (link : ℕ) (xs : List Held) → link ≢ old.link → kept_at link (xs ++ new ∷ ys) ≡ kept_at link (xs ++ old ∷ ys)
  kept_at-replace_other link [] apart = grind (arith, nat_tests)
  kept_at-replace_other link (x ∷ xs) apart = grind (arith, nat_tests, kept_at-replace_other link xs apart)

  none-replace : (link : ℕ) (xs : List Held) → kept_at link (xs ++ old ∷ ys) ≡ None → kept_at link (xs ++ new ∷ ys) ≡ None
  none-replace link [] none = grind (arith, nat_tests)
  none-replace link (x ∷ xs) none = grind (arith, nat_tests, none-replace link xs)

  pub once-replace : (xs : List Held) → IsEachOnce (xs ++ old ∷ ys) → IsEachOnce (xs ++ new ∷ ys)
  once-replace [] once = (ap (λ l. kept_at l ys) same ∙ once.0, once.1)
  once-replace (x ∷ xs) once = (none-replace x.link xs once.0, once-replace xs once.1)

-- none in its place
module _ (old : Held) (ys : List Held) where
  pub kept_at-remove_other : (link : ℕ) (xs : List Held) → link ≢ old.link → kept_at link (xs ++ ys) ≡ kept_at link (xs ++ old ∷ ys)
  kept_at-remove_other link [] apart = grind (arith, nat_tests)
  kept_at-remove_other link (x ∷ xs) apart = grind (arith, nat_tests, kept_at-remove_other link xs apart)

  none-remove : (link : ℕ) (xs : List Held) → kept_at link (xs ++ old ∷ ys) ≡ None → kept_at link (xs ++ ys) ≡ None
  none-remove link [] none = grind (arith, nat_tests)
  none-remove link (x ∷ xs) none = grind (arith, nat_tests, none-remove link xs)

  pub once-remove : (xs : List Held) → IsEachOnce (xs ++ old ∷ ys) → IsEachOnce (xs ++ ys)
  once-remove [] once = once.1
  once-remove (x ∷ xs) once = (none-remove x.link xs once.0, once-remove xs once.1)

  pub kept_at-remove_same : (xs : List Held) → IsEachOnce (xs ++ old ∷ ys) → kept_at old.link xs ≡ None → kept_at old.link (xs ++ ys) ≡ None
  kept_at-remove_same [] once none = once.0
  kept_at-remove_same (x ∷ xs) once none = grind (arith, nat_tests, kept_at-remove_same xs once.1)

pub once-push : (xs : List Held) (new : Held) → IsEachOnce xs → kept_at new.link xs ≡ None → IsEachOnce (xs ++ new ∷ [])
once-push [] new once none = (refl, tt)
once-push (x ∷ xs) new once none =
    let apart : x.link ≢ new.link = grind (arith, nat_tests) in
    let none-rest : kept_at new.link xs ≡ None = grind (arith, nat_tests) in
    (kept_at-append x.link xs (new ∷ []) once.0 ∙ kept_at-past x.link new [] (λ is. apart (sym is)), once-push xs new once.1 none-rest)

pub kept_at-push_other : (link : ℕ) (new : Held) → new.link ≢ link → (xs : List Held) → kept_at link (xs ++ new ∷ []) ≡ kept_at link xs
kept_at-push_other link new apart [] = grind (arith, nat_tests)
kept_at-push_other link new apart (x ∷ xs) = grind (arith, nat_tests, kept_at-push_other link new apart xs)
