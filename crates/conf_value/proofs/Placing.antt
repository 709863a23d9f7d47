-- Where the keys of an array stand, as pairs are added.
use Rattle.std.proofs.Common.{◌≡◌, ℕ, ◌+◌, ◌<◌, ◌≤◌, suc, zero, Bool, true, false, cond, List, [], ◌∷◌, ◌++◌, length, position, get_or, set, take, Result, Ok, Err, Option, Some, None, refl, sym, ap, ◌∙◌, subst, add-zero, arith}
use Rattle.std.specs.Prelude.{nat_eq, OnOk}
use Rattle.std.specs.Str.{bytes_eq}
use Rattle.std.specs.Option.{is_some, option_and_then}
use Rattle.std.specs.List.{position_from, position_or_len}
use Rattle.std.specs.Cmp.Lexicographic.{pointwise, nat_list_eq_equiv, bytes_decides}
use Rattle.std.specs.HashMap as hash
use Rattle.std.specs.HashMap.{HashMap}
use Rattle.std.specs.Map.{lookup, IsKeyTest, AreApart, KeepsOthers}
use Rattle.std.specs.Global.{Vec}
use Rattle.std.proofs.lemmas.Bool.{cases_Bool, cond-true, cond-false}
use Rattle.std.proofs.lemmas.Iterator.Adapters.{position_from-zero}
use Rattle.std.proofs.lemmas.List.Folds.{position_or_len-set}
use Rattle.std.proofs.lemmas.List.Quantifiers.{position-Some}
use Rattle.std.proofs.Math.ListN.{length-set}
use Rattle.std.proofs.lemmas.List.{take_more, length-take-le}
use Rattle.conf_value.specs.declared.value.Pair.{Pair, out-Pair}
use Rattle.conf_value.specs.Joining.{has_key, is_key}
use Rattle.conf_value.specs.Places.{or_place, place_if}

-- ---- the place of the first match, as items are added

from_push : {A : Type 0} (p : A → Bool) (i : ℕ) (xs : List A) (y : A) → position_from p i (xs ++ y ∷ []) ≡ or_place (position_from p i xs) (place_if (p y) (i + length xs))
from_push p i [] y = ap (λ k. cond (p y) (Some k) None) (sym (add-zero i))
from_push p i (x ∷ xs) y = by (p x) (from_push p (i + 1) xs y)
  where
    by : (t : Bool) → position_from p (i + 1) (xs ++ y ∷ []) ≡ or_place (position_from p (i + 1) xs) (place_if (p y) (i + 1 + length xs))
        → cond t (Some i) (position_from p (i + 1) (xs ++ y ∷ [])) ≡ or_place (cond t (Some i) (position_from p (i + 1) xs)) (place_if (p y) (i + suc (length xs)))
    by true h = refl
    by false h = let e : i + 1 + length xs ≡ i + suc (length xs) = omega arith in h ∙ ap (λ k. or_place (position_from p (i + 1) xs) (place_if (p y) k)) e

pub position_push : {A : Type 0} (p : A → Bool) (xs : List A) (y : A) → position p (xs ++ y ∷ []) ≡ or_place (position p xs) (place_if (p y) (length xs))
position_push p xs y =
    position_from-zero p (xs ++ y ∷ []) ∙ from_push p 0 xs y ∙ ap (λ o. or_place o (place_if (p y) (0 + length xs))) (sym (position_from-zero p xs)) ∙ ap (λ k. or_place (position p xs) (place_if (p y) k)) (omega arith)

-- an item that the test can't tell from the one in its place
pub position_set : {A : Type 0} (p : A → Bool) (xs : List A) (i : ℕ) (y : A) → p y ≡ p (get_or xs i y) → position p (set xs i y) ≡ position p xs
position_set p xs i y e = rw (position_or_len-set p xs i y y e, length-set) refl

-- ---- keys by their bytes

apart : (bs cs ks : List ℕ) → pointwise nat_eq bs cs ≡ false → pointwise nat_eq bs ks ≡ true → pointwise nat_eq cs ks ≡ false
apart bs cs ks n y = nat_list_eq_equiv.symm cs ks ∙ sym (nat_list_eq_equiv.congr bs ks cs y) ∙ n

others : {K X : Type 0} (eq : K → K → Bool) (test : K → Bool) (old new : List (K × X)) → KeepsOthers eq test old new → (other : K → Bool) → IsKeyTest eq other → AreApart test other → lookup other new ≡ lookup other old
unfolding KeepsOthers
others eq test old new h = h

-- what a map has for any bytes, once bytes got a value
pub updated : {X S : Type 0} (bs : List ℕ) (m n : HashMap (Vec ℕ) X S) (w : Option X) → hash.UpdatesBy (λ x y. pointwise nat_eq x.items y.items) (λ k. pointwise nat_eq bs k.items) m n w → (cs : List ℕ)
    → hash.get_by (λ k. pointwise nat_eq cs k.items) n ≡ cond (pointwise nat_eq bs cs) w (hash.get_by (λ k. pointwise nat_eq cs k.items) m)
updated {X} {S} bs m n w h cs = by (pointwise nat_eq bs cs) refl
  where
    by : (t : Bool) → pointwise nat_eq bs cs ≡ t → hash.get_by (λ k. pointwise nat_eq cs k.items) n ≡ cond t w (hash.get_by (λ k. pointwise nat_eq cs k.items) m)
    by true e = subst (λ (l : List ℕ). hash.get_by (λ (k : Vec ℕ). pointwise nat_eq l k.items) n ≡ w) ((bytes_decides bs cs).0 e) h.1
    by false e = others _ _ _ _ h.3 _ (λ x y. nat_list_eq_equiv.congr cs x.items y.items) (λ k. apart bs cs k.items e)

-- ---- places, as they are noted

-- bytes that have a place keep it
pub kept : (f : List ℕ → Option ℕ) (key : List ℕ) (at : ℕ) → is_some (f key) ≡ true → (q : List ℕ) → f q ≡ or_place (f q) (place_if (pointwise nat_eq key q) at)
kept f key at has q = by (pointwise nat_eq key q) refl (f q) refl
  where
    by : (t : Bool) → pointwise nat_eq key q ≡ t → (o : Option ℕ) → f q ≡ o → o ≡ or_place o (place_if t at)
    by t e (Some place) is = refl
    by false e None is = refl
    by true e None is = let same : key ≡ q = (bytes_decides key q).0 e in let none : f key ≡ None = ap f same ∙ is in let wrong : is_some (f key) ≡ false = ap is_some none in cc

-- bytes that had none have this one
pub newly : (f : List ℕ → Option ℕ) (key : List ℕ) (at : ℕ) → is_some (f key) ≡ false → (q : List ℕ) → cond (pointwise nat_eq key q) (Some at) (f q) ≡ or_place (f q) (place_if (pointwise nat_eq key q) at)
newly f key at has q = by (pointwise nat_eq key q) refl (f q) refl
  where
    by : (t : Bool) → pointwise nat_eq key q ≡ t → (o : Option ℕ) → f q ≡ o → cond t (Some at) o ≡ or_place o (place_if t at)
    by true e None is = refl
    by false e None is = refl
    by false e (Some place) is = refl
    by true e (Some place) is = let same : key ≡ q = (bytes_decides key q).0 e in let some : f key ≡ Some place = ap f same ∙ is in let wrong : is_some (f key) ≡ true = ap is_some some in cc

-- ---- arrays whose places are known

-- the tests of two equal keys are the same
alike : (key q : List ℕ) (own : Option (List ℕ)) → is_key key own ≡ true → is_key q own ≡ bytes_eq key q
alike key q None e = cc
alike key q (Some own) e = ap (λ (l : List ℕ). bytes_eq l q) ((bytes_decides own key).0 e)

-- a pair that takes the place of the first with its key moves no key
pub stays : (pairs : List Pair) (pair : Pair) (f : List ℕ → Option ℕ) (place : ℕ) → ((q : List ℕ) → f q ≡ position (has_key q) pairs) → option_and_then f (out-Pair pair).key ≡ Some place
    → (q : List ℕ) → f q ≡ position (has_key q) (set pairs place pair)
stays pairs pair f place are is q = by (out-Pair pair).key refl is
  where
    by : (key : Option (List ℕ)) → (out-Pair pair).key ≡ key → option_and_then f key ≡ Some place → f q ≡ position (has_key q) (set pairs place pair)
    by None e h = cc
    by (Some key) e h =
        let first = position-Some (has_key key) pairs place pair (sym (are key) ∙ h) in
        let same : has_key q pair ≡ has_key q (get_or pairs place pair) = ap (is_key q) e ∙ sym (alike key q _ first.1) in
        are q ∙ sym (position_set (has_key q) pairs place pair same)

-- a pair that was noted and comes last
pub grown : (pairs : List Pair) (pair : Pair) (f g : List ℕ → Option ℕ) (at : ℕ) → at ≡ length pairs → ((q : List ℕ) → f q ≡ position (has_key q) pairs) → ((q : List ℕ) → g q ≡ or_place (f q) (place_if (has_key q pair) at))
    → (q : List ℕ) → g q ≡ position (has_key q) (pairs ++ pair ∷ [])
grown pairs pair f g at last are noted q =
    noted q ∙ ap (λ (n : ℕ). or_place (f q) (place_if (has_key q pair) n)) last ∙ ap (λ (o : Option ℕ). or_place o (place_if (has_key q pair) (length pairs))) (are q) ∙ sym (position_push (has_key q) pairs pair)

-- the next of some pairs is noted
pub noted_next : (pairs : List Pair) (at : ℕ) (pair : Pair) (f g : List ℕ → Option ℕ) → at < length pairs → pair ≡ get_or pairs at pair → ((q : List ℕ) → f q ≡ position (has_key q) (take at pairs))
    → ((q : List ℕ) → g q ≡ or_place (f q) (place_if (has_key q pair) at)) → (q : List ℕ) → g q ≡ position (has_key q) (take (at + 1) pairs)
noted_next pairs at pair f g inside is are noted q =
    let few : at ≤ length pairs = omega (arith, inside) in
    grown (take at pairs) pair f g at (sym (length-take-le at pairs few)) are noted q
    ∙ ap (λ (x : Pair). position (has_key q) (take at pairs ++ x ∷ [])) is ∙ ap (position (has_key q)) (sym (take_more pairs at pair inside))

pub on_ok : {A E : Type 0} (r : Result A E) {P Q : Type 0} → (P → Q) → OnOk r P → OnOk r Q
on_ok (Ok x) f p = f p
on_ok (Err e) f p = tt
