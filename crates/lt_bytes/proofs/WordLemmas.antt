-- What is trimmed is blanks, and all of them.
use Rattle.std.proofs.Common.{◌≡◌, ℕ, Bool, true, false, ◌&&◌, List, [], ◌∷◌, ◌++◌, reverse, refl, ap, sym, ◌∙◌, if◌then◌else◌}
use Rattle.std.specs.List.{list_all}
use Rattle.std.proofs.lemmas.List.{reverse-append, reverse-reverse}
use Rattle.std.proofs.lemmas.List.Folds.{list_all-append}
use Rattle.lt_bytes.specs.Words.{is_blank, after_blanks, trimmed, IsTrimmed}

-- each element passes in the other order as well
list_all-reverse : (p : ℕ → Bool) (xs : List ℕ) → list_all p (reverse xs) ≡ list_all p xs
list_all-reverse p [] = refl
list_all-reverse p (x ∷ xs) =
    ap (list_all p) (reverse-append (x ∷ []) xs) ∙ list_all-append p (reverse xs) (x ∷ []) ∙ by (list_all p xs) (p x) (list_all p (reverse xs)) (list_all-reverse p xs)
  where
    by : (a b c : Bool) → c ≡ a → (c && (b && true)) ≡ (b && a)
    by true true c e = rw e refl
    by true false c e = rw e refl
    by false true c e = rw e refl
    by false false c e = rw e refl

-- the bytes begin with blanks, and go on with what comes after them
after_blanks-split : (bytes : List ℕ) → (front : List ℕ) × (list_all is_blank front ≡ true) × (bytes ≡ front ++ after_blanks bytes)
after_blanks-split [] = ([], refl, refl)
after_blanks-split (b ∷ bytes) = by (is_blank b) refl (after_blanks-split bytes)
  where
    by : (blank : Bool) → is_blank b ≡ blank → (front : List ℕ) × (list_all is_blank front ≡ true) × (bytes ≡ front ++ after_blanks bytes)
        → (front : List ℕ) × (list_all is_blank front ≡ true) × (b ∷ bytes ≡ front ++ (if blank then after_blanks bytes else b ∷ bytes))
    by true e (front, blanks, whole) = (b ∷ front, rw e blanks, ap (λ (t : List ℕ). b ∷ t) whole)
    by false e split = ([], refl, refl)

-- what comes after blanks begins with none
after_blanks-first : (bytes : List ℕ) (b : ℕ) (more : List ℕ) → after_blanks bytes ≡ b ∷ more → is_blank b ≡ false
after_blanks-first [] b more e = absurd (cc e)
after_blanks-first (x ∷ bytes) b more e = by (is_blank x) refl (after_blanks-first bytes b more) e
  where
    by : (blank : Bool) → is_blank x ≡ blank → (after_blanks bytes ≡ b ∷ more → is_blank b ≡ false) → (if blank then after_blanks bytes else x ∷ bytes) ≡ b ∷ more → is_blank b ≡ false
    by true is further e = further e
    by false is further e = let same : x ≡ b = cc e in rw (← same) is

pub trimmed_lem : (bytes : List ℕ) → IsTrimmed bytes (trimmed bytes)
trimmed_lem bytes =
    let rest = after_blanks bytes in
    let f = after_blanks-split bytes in
    let g = after_blanks-split (reverse rest) in
    let back = reverse g.0 in
    let split : rest ≡ trimmed bytes ++ back =
    sym (reverse-reverse rest) ∙ ap reverse g.2 ∙ reverse-append g.0 (after_blanks (reverse rest)) in
    record {
      front = f.0;
      back = back;
      front_blank = f.1;
      back_blank = list_all-reverse is_blank g.0 ∙ g.1;
      whole = f.2 ∙ ap (λ (t : List ℕ). f.0 ++ t) split;
      first = λ b more e. after_blanks-first bytes b (more ++ back) (split ∙ ap (λ (t : List ℕ). t ++ back) e);
      last = λ b more e. after_blanks-first (reverse rest) b (reverse more)
          (sym (reverse-reverse (after_blanks (reverse rest))) ∙ ap reverse e ∙ reverse-append more (b ∷ []));
    }
