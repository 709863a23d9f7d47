-- The first bytes of a head that has ended, up to its end, have ended there, and fewer have not.
use Rattle.std.proofs.Common.{◌≡◌, ℕ, zero, suc, ◌+◌, ◌-◌, ◌<◌, ◌≤◌, Bool, true, false, cond, ◌&&◌, eqb, ltb, leb, List, [], ◌∷◌, ◌++◌, length, take, drop, Option, Some, None, ◌⊎◌, sym, refl, ap, ◌∙◌, arith, subst, inl, inr, length-take}
use Rattle.std.proofs.lemmas.List.{take-take, take_all, take-append-le, take-append-drop}
use Rattle.std.specs.Prelude.{option_map}
use Rattle.std.proofs.lemmas.Bool.{cases_Bool, cases_lt, ltb-true, ltb-false, leb-true, leb-false}
use Rattle.http_head.specs.Lines.{after_return, empty_line, after_blank, length_to_end, end_of}
use Rattle.http_head.specs.Ends.{head_end_at, head_end_in}
use Rattle.http_head.specs.declared.ends.HeadEnd.{HeadEnd}
use Rattle.http_head.specs.declared.ends.HeadEnd.TheVariants.{At, NotYet, TooLarge}
use Rattle.http_head.proofs.EndLemmas.{at_stays, too_large_stays}

-- an empty line at the front is one by itself
empty_itself : (xs : List ℕ) → empty_line (take (empty_line xs) xs) ≡ empty_line xs
empty_itself [] = refl
empty_itself (a ∷ []) = by (eqb a 10) (eqb a 13) refl refl
  where
    by : (x y : Bool) → eqb a 10 ≡ x → eqb a 13 ≡ y → ◌≡◌ {A = ℕ} (empty_line (take (cond x 1 (cond y 0 0)) (a ∷ []))) (cond x 1 (cond y 0 0))
    by true y ex ey = rw ex refl
    by false true ex ey = refl
    by false false ex ey = refl
empty_itself (a ∷ b ∷ rest) = by (eqb a 10) (eqb a 13) (eqb b 10) refl refl refl
  where
    by : (x y z : Bool) → eqb a 10 ≡ x → eqb a 13 ≡ y → eqb b 10 ≡ z
        → ◌≡◌ {A = ℕ} (empty_line (take (cond x 1 (cond y (cond z 2 0) 0)) (a ∷ b ∷ rest))) (cond x 1 (cond y (cond z 2 0) 0))
    by true y z ex ey ez = rw ex refl
    by false true true ex ey ez = rw (ex, ey, ez) refl
    by false true false ex ey ez = refl
    by false false z ex ey ez = refl

-- where no empty line stands at the front, none does at that of fewer bytes
none_in_less : (m : ℕ) (xs : List ℕ) → empty_line xs ≡ 0 → empty_line (take m xs) ≡ 0
none_in_less zero xs h = refl
none_in_less (suc m) [] h = refl
none_in_less (suc zero) (a ∷ xs) h = by (eqb a 10) (eqb a 13) refl h
  where
    by : (x y : Bool) → eqb a 10 ≡ x → ◌≡◌ {A = ℕ} (cond x 1 (cond y (after_return xs) 0)) 0 → ◌≡◌ {A = ℕ} (cond x 1 (cond y 0 0)) 0
    by true y ex k = absurd (omega arith)
    by false true ex k = refl
    by false false ex k = refl
none_in_less (suc (suc m)) (a ∷ []) h = h
none_in_less (suc (suc m)) (a ∷ b ∷ xs) h = h

-- what is known where the lines end behind n bytes
record IsEnd (xs : List ℕ) (n : ℕ) : Type 0 where
  pub two : 2 ≤ n
  pub within : n ≤ length xs
  pub itself : length_to_end (take n xs) ≡ Some n

empty_within : (xs : List ℕ) → empty_line xs ≤ length xs
empty_within [] = omega arith
empty_within (a ∷ []) = by (eqb a 10) (eqb a 13)
  where
    by : (x y : Bool) → cond x 1 (cond y 0 0) ≤ 1
    by true y = omega arith
    by false true = omega arith
    by false false = omega arith
empty_within (a ∷ b ∷ rest) = by (eqb a 10) (eqb a 13) (eqb b 10)
  where
    by : (x y z : Bool) → cond x 1 (cond y (cond z 2 0) 0) ≤ suc (suc (length rest))
    by true y z = omega arith
    by false true true = omega arith
    by false true false = omega arith
    by false false z = omega arith

some_suc : (o : Option ℕ) (n : ℕ) → option_map suc o ≡ Some n → (k : ℕ) × (o ≡ Some k) × (suc k ≡ n)
some_suc None n e = cc
some_suc (Some k) n e = (k, refl, cc)

not_ltb : (n : ℕ) → ltb 0 n ≡ false → n ≡ 0
not_ltb n e = omega (arith, ltb-false 0 n e)

is_end : (xs : List ℕ) (n : ℕ) → length_to_end xs ≡ Some n → IsEnd xs n
is_end [] n e = cc
is_end (b ∷ xs) n e = by (eqb b 10) (cases_Bool (ltb 0 (empty_line xs))) refl (is_end xs) e
  where
    step : (m : ℕ) (t : Bool) → eqb b 10 ≡ t → (t && ltb 0 (empty_line (take m xs))) ≡ false → IsEnd xs m → IsEnd (b ∷ xs) (suc m)
    step m t et none i = record {
      two = omega (arith, i.two);
      within = omega (arith, i.within);
      itself = ap (λ (u : Bool). cond (u && ltb 0 (empty_line (take m xs))) (Some (empty_line (take m xs) + 1)) (option_map suc (length_to_end (take m xs)))) et
          ∙ ap (λ (u : Bool). cond u (Some (empty_line (take m xs) + 1)) (option_map suc (length_to_end (take m xs)))) none
          ∙ ap (option_map suc) i.itself;
    }

    here : eqb b 10 ≡ true → 0 < empty_line xs → ltb 0 (empty_line xs) ≡ true → IsEnd (b ∷ xs) (suc (empty_line xs))
    here et some more = record {
      two = omega (arith, some);
      within = omega (arith, empty_within xs);
      itself = ap (λ (u : Bool). cond (u && ltb 0 (empty_line (take (empty_line xs) xs))) (Some (empty_line (take (empty_line xs) xs) + 1)) (option_map suc (length_to_end (take (empty_line xs) xs)))) et
          ∙ ap (λ (k : ℕ). cond (ltb 0 k) (Some (k + 1)) (option_map suc (length_to_end (take (empty_line xs) xs)))) (empty_itself xs)
          ∙ ap (λ (u : Bool). cond u (Some (empty_line xs + 1)) (option_map suc (length_to_end (take (empty_line xs) xs)))) more
          ∙ ap Some (let z : empty_line xs + 1 ≡ suc (empty_line xs) = omega arith in z);
    }

    by : (t : Bool) → (ltb 0 (empty_line xs) ≡ true) ⊎ (ltb 0 (empty_line xs) ≡ false) → eqb b 10 ≡ t → ((k : ℕ) → length_to_end xs ≡ Some k → IsEnd xs k)
        → cond (t && ltb 0 (empty_line xs)) (Some (empty_line xs + 1)) (option_map suc (length_to_end xs)) ≡ Some n → IsEnd (b ∷ xs) n
    by false d et next e =
        let k = some_suc (length_to_end xs) n e in
        subst (IsEnd (b ∷ xs)) k.2 (step k.0 false et refl (next k.0 k.1))
    by true (inl y) et next e =
        let z : Some (empty_line xs + 1) ≡ Some n = rw y at e in
        let same : suc (empty_line xs) ≡ n = let w : empty_line xs + 1 ≡ n = cc in omega (arith, w) in
        subst (IsEnd (b ∷ xs)) same (here et (ltb-true 0 (empty_line xs) y) y)
    by true (inr f) et next e =
        let z : option_map suc (length_to_end xs) ≡ Some n = rw f at e in
        let k = some_suc (length_to_end xs) n z in
        let none : ltb 0 (empty_line (take k.0 xs)) ≡ false = ap (ltb 0) (none_in_less k.0 xs (not_ltb (empty_line xs) f)) in
        subst (IsEnd (b ∷ xs)) k.2 (step k.0 true et none (next k.0 k.1))

-- the empty lines at the front
record IsSkipped (bytes : List ℕ) : Type 0 where
  pub count : ℕ
  pub size : length bytes ≡ count + length (after_blank bytes)
  pub less : (q total : ℕ) → total ≡ count + suc (suc q) → after_blank (take total bytes) ≡ take (suc (suc q)) (after_blank bytes)

skipped : (bytes : List ℕ) → IsSkipped bytes
skipped [] = record { count = 0; size = refl; less = none }
  where
    none : (q total : ℕ) → total ≡ 0 + suc (suc q) → after_blank (take total []) ≡ []
    none q zero e = refl
    none q (suc t) e = refl
skipped (a ∷ []) = by (eqb a 10) refl
  where
    by : (x : Bool) → eqb a 10 ≡ x → IsSkipped (a ∷ [])
    by true ex = record {
      count = 1;
      size = rw ex refl;
      less = λ q total e. one q total e;
    }
      where
        one : (q total : ℕ) → total ≡ 1 + suc (suc q) → after_blank (take total (a ∷ [])) ≡ take (suc (suc q)) (after_blank (a ∷ []))
        one q zero e = absurd (omega arith)
        one q (suc zero) e = absurd (omega arith)
        one q (suc (suc t)) e = rw ex refl
    by false ex = record {
      count = 0;
      size = rw ex refl;
      less = λ q total e. one q total e;
    }
      where
        one : (q total : ℕ) → total ≡ 0 + suc (suc q) → after_blank (take total (a ∷ [])) ≡ take (suc (suc q)) (after_blank (a ∷ []))
        one q zero e = absurd (omega arith)
        one q (suc zero) e = absurd (omega arith)
        one q (suc (suc t)) e = rw ex refl
skipped (a ∷ b ∷ rest) = by (eqb a 10) (eqb a 13 && eqb b 10) refl refl (skipped (b ∷ rest)) (skipped rest)
  where
    by : (x y : Bool) → eqb a 10 ≡ x → (eqb a 13 && eqb b 10) ≡ y → IsSkipped (b ∷ rest) → IsSkipped rest → IsSkipped (a ∷ b ∷ rest)
    by true y ex ey one two = record {
      count = suc one.count;
      size = rw ex (omega (arith, one.size));
      less = line;
    }
      where
        line : (q total : ℕ) → total ≡ suc one.count + suc (suc q) → after_blank (take total (a ∷ b ∷ rest)) ≡ take (suc (suc q)) (after_blank (a ∷ b ∷ rest))
        line q zero e = absurd (omega arith)
        line q (suc zero) e = absurd (omega arith)
        line q (suc (suc t)) e = rw ex (one.less q (suc t) (omega (arith, e)))
    by false true ex ey one two = record {
      count = suc (suc two.count);
      size = rw (ex, ey) (omega (arith, two.size));
      less = line;
    }
      where
        line : (q total : ℕ) → total ≡ suc (suc two.count) + suc (suc q) → after_blank (take total (a ∷ b ∷ rest)) ≡ take (suc (suc q)) (after_blank (a ∷ b ∷ rest))
        line q zero e = absurd (omega arith)
        line q (suc zero) e = absurd (omega arith)
        line q (suc (suc t)) e = rw (ex, ey) (two.less q t (omega (arith, e)))
    by false false ex ey one two = record {
      count = 0;
      size = rw (ex, ey) (omega arith);
      less = line;
    }
      where
        line : (q total : ℕ) → total ≡ 0 + suc (suc q) → after_blank (take total (a ∷ b ∷ rest)) ≡ take (suc (suc q)) (after_blank (a ∷ b ∷ rest))
        line q zero e = absurd (omega arith)
        line q (suc zero) e = absurd (omega arith)
        line q (suc (suc t)) e =
            let same : t ≡ q = omega (arith, e) in
            rw (ex, ey, same) refl

some_plus : (o : Option ℕ) (d n : ℕ) → option_map (λ m. m + d) o ≡ Some n → (k : ℕ) × (o ≡ Some k) × (k + d ≡ n)
some_plus None d n e = cc
some_plus (Some k) d n e = (k, refl, cc)

two_more : (n : ℕ) → 2 ≤ n → (q : ℕ) × (n ≡ suc (suc q))
two_more zero h = absurd (omega arith)
two_more (suc zero) h = absurd (omega arith)
two_more (suc (suc q)) h = (q, refl)

-- a head that has ended has ended without the bytes behind it
pub end_itself : (bytes : List ℕ) (n : ℕ) → end_of bytes ≡ Some n → (end_of (take n bytes) ≡ Some n) × (n ≤ length bytes)
end_itself bytes n e =
    let s = skipped bytes in
    let after : List ℕ = after_blank bytes in
    let k = some_plus (length_to_end after) (length bytes - length after) n e in
    let i = is_end after k.0 k.1 in
    let q = two_more k.0 i.two in
    let total : n ≡ s.count + suc (suc q.0) = omega (arith, s.size, k.2, q.1) in
    let front : after_blank (take n bytes) ≡ take k.0 after = s.less q.0 n total ∙ ap (λ (m : ℕ). take m after) (sym q.1) in
    let inside : n ≤ length bytes = omega (arith, i.within, s.size, k.2) in
    let long : length (take n bytes) ≡ n = omega (arith, length-take n bytes, inside) in
    let size : length (take k.0 after) ≡ k.0 = omega (arith, length-take k.0 after, i.within) in (
      ap (λ (l : List ℕ). option_map (λ m. m + (length (take n bytes) - length l)) (length_to_end l)) front
          ∙ ap (λ (o : Option ℕ). option_map (λ m. m + (length (take n bytes) - length (take k.0 after))) o) i.itself
          ∙ ap Some (let z : k.0 + (length (take n bytes) - length (take k.0 after)) ≡ n = omega (arith, long, size, k.2, s.size) in z),
      inside,
    )

-- ---- within the limit

at_is : (most len n : ℕ) (o : Option ℕ) → head_end_at most len o ≡ At n → o ≡ Some n
at_is most len n None e = by (leb most len) e
  where
    by : (t : Bool) → cond t TooLarge NotYet ≡ At n → None ≡ Some n
    by true e = cc
    by false e = cc
at_is most len n (Some k) e = cc

large_is : (most len : ℕ) (o : Option ℕ) → head_end_at most len o ≡ TooLarge → most ≤ len
large_is most len (Some n) e = cc
large_is most len None e = by (leb most len) refl e
  where
    by : (t : Bool) → leb most len ≡ t → cond t TooLarge NotYet ≡ TooLarge → most ≤ len
    by true h e = leb-true most len h
    by false h e = cc

not_yet_is : (most len : ℕ) (o : Option ℕ) → head_end_at most len o ≡ NotYet → len < most
not_yet_is most len (Some n) e = cc
not_yet_is most len None e = by (leb most len) refl e
  where
    by : (t : Bool) → leb most len ≡ t → cond t TooLarge NotYet ≡ NotYet → len < most
    by true h e = cc
    by false h e = leb-false most len h

-- a head that goes on is below the limit
pub not_yet_short : (most : ℕ) (bytes : List ℕ) → head_end_in most bytes ≡ NotYet → length bytes < most
not_yet_short most bytes e = not_yet_is most (length bytes) (end_of (take most bytes)) e

-- where a head ends is within the limit and the bytes, and its bytes alone end there too
pub record IsAt (most : ℕ) (bytes : List ℕ) (n : ℕ) : Type 0 where
  pub within : n ≤ length bytes
  pub below : n ≤ most
  pub itself : head_end_in most (take n bytes) ≡ At n

pub is_at : (most : ℕ) (bytes : List ℕ) (n : ℕ) → head_end_in most bytes ≡ At n → IsAt most bytes n
is_at most bytes n e =
    let front = end_itself (take most bytes) n (at_is most (length bytes) n (end_of (take most bytes)) e) in
    let below : n ≤ most = omega (arith, front.1, length-take most bytes) in
    let less : take n (take most bytes) ≡ take n bytes = take-take n most bytes below in
    let all : take most (take n bytes) ≡ take n bytes = take_all most (take n bytes) (omega (arith, length-take n bytes, below)) in
    record {
      within = omega (arith, front.1, length-take most bytes);
      below = below;
      itself = ap (head_end_at most (length (take n bytes))) (ap end_of (all ∙ sym less) ∙ front.0);
    }

-- the first bytes of a head that goes on
pub goes_before : (most : ℕ) (bytes more : List ℕ) → head_end_in most (bytes ++ more) ≡ NotYet → head_end_in most bytes ≡ NotYet
goes_before most bytes more e = by (head_end_in most bytes) refl
  where
    by : (h : HeadEnd) → head_end_in most bytes ≡ h → head_end_in most bytes ≡ NotYet
    by (At n) k = let z : At n ≡ NotYet = sym (at_stays most bytes more n k) ∙ e in cc
    by NotYet k = k
    by TooLarge k = let z : TooLarge ≡ NotYet = sym (too_large_stays most bytes more k) ∙ e in cc

-- those of a head that ends, before its end
pub goes_to_end : (most : ℕ) (bytes more : List ℕ) (n : ℕ) → head_end_in most (bytes ++ more) ≡ At n → length bytes < n → head_end_in most bytes ≡ NotYet
goes_to_end most bytes more n e less = by (head_end_in most bytes) refl
  where
    by : (h : HeadEnd) → head_end_in most bytes ≡ h → head_end_in most bytes ≡ NotYet
    by (At k) h =
        let z : At k ≡ At n = sym (at_stays most bytes more k h) ∙ e in
        let same : k ≡ n = cc in
        absurd (omega (arith, (is_at most bytes k h).within, same, less))
    by NotYet h = h
    by TooLarge h = let z : TooLarge ≡ At n = sym (too_large_stays most bytes more h) ∙ e in cc

-- those of a head that is too large, below the limit
pub goes_to_limit : (most : ℕ) (bytes more : List ℕ) → head_end_in most (bytes ++ more) ≡ TooLarge → length bytes < most → head_end_in most bytes ≡ NotYet
goes_to_limit most bytes more e less = by (head_end_in most bytes) refl
  where
    by : (h : HeadEnd) → head_end_in most bytes ≡ h → head_end_in most bytes ≡ NotYet
    by (At k) h = let z : At k ≡ TooLarge = sym (at_stays most bytes more k h) ∙ e in cc
    by NotYet h = h
    by TooLarge h = absurd (omega (arith, large_is most (length bytes) (end_of (take most bytes)) h, less))

-- a head that goes on ends behind the bytes that came
pub ends_behind : (most : ℕ) (bytes more : List ℕ) (n : ℕ) → head_end_in most bytes ≡ NotYet → head_end_in most (bytes ++ more) ≡ At n → length bytes < n
ends_behind most bytes more n going e = by (cases_lt (length bytes) n)
  where
    by : (length bytes < n) ⊎ (n ≤ length bytes) → length bytes < n
    by (inl less) = less
    by (inr within) =
        let itself : head_end_in most (take n bytes) ≡ At n =
        ap (head_end_in most) (sym (take-append-le n bytes more within)) ∙ (is_at most (bytes ++ more) n e).itself in
        let whole : head_end_in most bytes ≡ At n =
        ap (head_end_in most) (sym (take-append-drop n bytes)) ∙ at_stays most (take n bytes) (drop n bytes) n itself in
        let z : NotYet ≡ At n = sym going ∙ whole in
        cc
