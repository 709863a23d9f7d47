-- More bytes do not change where a head ends, and what the map answers for a name.
use Rattle.std.proofs.Common.{◌≡◌, ◌≢◌, ℕ, zero, suc, ◌+◌, ◌-◌, ◌<◌, Bool, true, false, cond, ◌&&◌, eqb, ltb, List, [], ◌∷◌, ◌++◌, map, length, Option, Some, None, ◌⊎◌, sym, refl, ap, ◌∙◌, arith, subst, inl, inr}
use Rattle.std.specs.Prelude.{option_map, bytes_eq}
use Rattle.std.proofs.lemmas.List.{append-nil, append_assoc, length-append}
use Rattle.http_header.specs.Token.{lowercase}
use Rattle.http_header.specs.FieldValue.{FieldValue, plain_value}
use Rattle.http_header.specs.HeaderMap.{Entries, get_all, append, append_all}
use Rattle.http_header.proofs.HeaderMapLemmas.{get_all-append_same, get_all-append_other}
use Rattle.std.proofs.lemmas.Bool.{cases_Bool, false≢true, ltb-true}
use Rattle.std.proofs.lemmas.Slice.Eq.{bytes_eq-Decides}
use Rattle.http_head.specs.Lines.{after_return, empty_line, after_blank, length_to_end, end_of}
use Rattle.http_head.specs.Fields.{Pair, kept, map_of, values_of}

-- the values that a map has under a name, once pairs were put in
values_from : (m : Entries FieldValue) (ps : List Pair) (name : List ℕ)
    → get_all (append_all m (map kept ps)) name ≡ get_all m name ++ values_of ps name
values_from m [] name = sym (append-nil (get_all m name))
values_from m (p ∷ ps) name =
    let n : List ℕ = lowercase p.0 in
    let v : FieldValue = plain_value p.1 in
    values_from (append m n v) ps name
    ∙ elim (cases_Bool (bytes_eq n name)) [
      | inl t ↦
          let e : n ≡ name = (bytes_eq-Decides n name).0 t in
          let same : get_all (append m n v) name ≡ get_all m name ++ v ∷ [] = subst (λ (k : List ℕ). get_all (append m n v) k ≡ get_all m k ++ v ∷ []) e (get_all-append_same m n v) in
          rw (t, same) (append_assoc (get_all m name) (v ∷ []) (values_of ps name))
      | inr f ↦
          let apart : n ≢ name = λ e. absurd (false≢true (sym f ∙ (bytes_eq-Decides n name).1 e)) in
          rw (f, get_all-append_other m n name v apart) refl
    ]

pub values_are : (ps : List Pair) (name : List ℕ) → get_all (map_of ps) name ≡ values_of ps name
values_are ps name = values_from [] ps name

-- ---- more bytes

empty_line-more : (xs more : List ℕ) → 0 < empty_line xs → empty_line (xs ++ more) ≡ empty_line xs
empty_line-more [] more h = absurd (omega arith)
empty_line-more (a ∷ []) more h = by (eqb a 10) (eqb a 13) h
  where
    by : (x y : Bool) → 0 < cond x 1 (cond y 0 0) → cond x 1 (cond y (after_return more) 0) ≡ cond x 1 (cond y 0 0)
    by true y k = refl
    by false true k = absurd (omega arith)
    by false false k = absurd (omega arith)
empty_line-more (a ∷ b ∷ rest) more h = refl

-- what a byte adds to the end
skip_more : (o p : Option ℕ) (n : ℕ) → ((k : ℕ) → o ≡ Some k → p ≡ Some k) → option_map suc o ≡ Some n → option_map suc p ≡ Some n
skip_more None p n ih e = cc
skip_more (Some k) p n ih e = ap (option_map suc) (ih k refl) ∙ e

none_alone : (a n : ℕ) → length_to_end (a ∷ []) ≡ Some n → ⊥
none_alone a n e = by (eqb a 10) e
  where
    by : (t : Bool) → cond (t && false) (Some (suc zero)) (option_map suc (length_to_end [])) ≡ Some n → ⊥
    by true k = cc
    by false k = cc

stays : (xs more : List ℕ) (n : ℕ) → length_to_end xs ≡ Some n → empty_line (xs ++ more) ≡ empty_line xs
stays [] more n e = cc
stays (a ∷ []) more n e = absurd (none_alone a n e)
stays (a ∷ b ∷ rest) more n e = refl

some_of : (o : Option ℕ) (n : ℕ) → option_map suc o ≡ Some n → (k : ℕ) × (o ≡ Some k)
some_of None n e = cc
some_of (Some k) n e = (k, refl)

length_to_end-more : (xs more : List ℕ) (n : ℕ) → length_to_end xs ≡ Some n → length_to_end (xs ++ more) ≡ Some n
length_to_end-more [] more n e = cc
length_to_end-more (b ∷ xs) more n e = by (eqb b 10) (cases_Bool (ltb 0 (empty_line xs))) (λ k. length_to_end-more xs more k) e
  where
    by : (t : Bool) → (ltb 0 (empty_line xs) ≡ true) ⊎ (ltb 0 (empty_line xs) ≡ false) → ((k : ℕ) → length_to_end xs ≡ Some k → length_to_end (xs ++ more) ≡ Some k)
        → cond (t && ltb 0 (empty_line xs)) (Some (empty_line xs + 1)) (option_map suc (length_to_end xs)) ≡ Some n
        → cond (t && ltb 0 (empty_line (xs ++ more))) (Some (empty_line (xs ++ more) + 1)) (option_map suc (length_to_end (xs ++ more))) ≡ Some n
    by false d ih e = skip_more (length_to_end xs) (length_to_end (xs ++ more)) n ih e
    by true (inl y) ih e =
        let k = empty_line-more xs more (ltb-true 0 (empty_line xs) y) in
        let z : Some (empty_line xs + 1) ≡ Some n = rw y at e in
        rw (k, y) z
    by true (inr f) ih e =
        let z : option_map suc (length_to_end xs) ≡ Some n = rw f at e in
        let k = some_of (length_to_end xs) n z in
        rw (stays xs more k.0 k.1, f) (skip_more (length_to_end xs) (length_to_end (xs ++ more)) n ih z)

after_blank-more : (xs more : List ℕ) (k : ℕ) → length_to_end (after_blank xs) ≡ Some k → after_blank (xs ++ more) ≡ after_blank xs ++ more
after_blank-more [] more k e = cc
after_blank-more (a ∷ []) more k e = absurd (by (eqb a 10) e)
  where
    by : (t : Bool) → length_to_end (cond t [] (a ∷ [])) ≡ Some k → ⊥
    by true e = cc
    by false e = none_alone a k e
after_blank-more (a ∷ b ∷ rest) more k e = by (eqb a 10) (eqb a 13 && eqb b 10) e (after_blank-more (b ∷ rest) more k) (after_blank-more rest more k)
  where
    by : (x y : Bool) → length_to_end (cond x (after_blank (b ∷ rest)) (cond y (after_blank rest) (a ∷ b ∷ rest))) ≡ Some k
        → (length_to_end (after_blank (b ∷ rest)) ≡ Some k → after_blank (b ∷ (rest ++ more)) ≡ after_blank (b ∷ rest) ++ more)
        → (length_to_end (after_blank rest) ≡ Some k → after_blank (rest ++ more) ≡ after_blank rest ++ more)
        → cond x (after_blank (b ∷ (rest ++ more))) (cond y (after_blank (rest ++ more)) (a ∷ b ∷ (rest ++ more))) ≡ cond x (after_blank (b ∷ rest)) (cond y (after_blank rest) (a ∷ b ∷ rest)) ++ more
    by true y e one two = one e
    by false true e one two = two e
    by false false e one two = refl

some_tail : (o : Option ℕ) (d n : ℕ) → option_map (λ m. m + d) o ≡ Some n → (k : ℕ) × (o ≡ Some k)
some_tail None d n e = cc
some_tail (Some k) d n e = (k, refl)

-- a head that has ended stays as it is
pub end_of-more : (bytes more : List ℕ) (n : ℕ) → end_of bytes ≡ Some n → end_of (bytes ++ more) ≡ Some n
end_of-more bytes more n e =
    let k = some_tail (length_to_end (after_blank bytes)) (length bytes - length (after_blank bytes)) n e in
    let ab : after_blank (bytes ++ more) ≡ after_blank bytes ++ more = after_blank-more bytes more k.0 k.1 in
    let te : length_to_end (after_blank bytes ++ more) ≡ length_to_end (after_blank bytes) = length_to_end-more (after_blank bytes) more k.0 k.1 ∙ sym k.1 in
    let d : length (bytes ++ more) - length (after_blank bytes ++ more) ≡ length bytes - length (after_blank bytes) =
    omega (arith, length-append bytes more, length-append (after_blank bytes) more) in
    rw (ab, te, d) e
