-- The settings of a block are in form.
use Rattle.std.proofs.Common.{◌≡◌, ◌≢◌, ℕ, zero, suc, List, [], ◌∷◌, slice_get, Option, Some, None, is_some, unwrap_or, Bool, true, false, if◌then◌else◌, refl, sym, ◌∙◌, ap, subst, arith}
use Rattle.std.specs.Str.{bytes_eq}
use Rattle.std.proofs.lemmas.Slice.Eq.{bytes_eq-Decides}
use Rattle.conf_value.specs.declared.value.Value.{Value}
use Rattle.conf_value.specs.declared.block.Setting.{Setting}
use Rattle.settings.specs.Checking.{check}
use Rattle.settings.specs.InForm.{IsTaken, AreGoodSettings}
use Rattle.conf_eval.specs.Settings.{value_of, with_setting}
use Rattle.conf_eval.specs.Forms.{AreGood}
use Rattle.conf_eval.proofs.Placed.{bytes_same, no}

-- ---- a key that is set

some_of : {A : Type 0} (x y : A) → Some x ≡ Some y → x ≡ y
some_of x y p = ap (λ o. unwrap_or o x) p

value_other : (settings : List Setting) (new : Setting) (q : List ℕ) → bytes_eq new.key q ≡ false → value_of q (with_setting settings new) ≡ value_of q settings
value_other [] new q apart = ap (λ (b : Bool). if b then Some new.value else None) apart
value_other (s ∷ settings) new q apart = by (value_other settings new q apart) (bytes_eq s.key new.key) refl
  where
    by : value_of q (with_setting settings new) ≡ value_of q settings → (b : Bool) → bytes_eq s.key new.key ≡ b → value_of q (if b then new ∷ settings else s ∷ with_setting settings new) ≡ (if bytes_eq s.key q then Some s.value else value_of q settings)
    by rest true e = ap (λ (b : Bool). if b then Some new.value else value_of q settings) apart
        ∙ sym (ap (λ (b : Bool). if b then Some s.value else value_of q settings) (ap (λ (l : List ℕ). bytes_eq l q) ((bytes_eq-Decides s.key new.key).0 e) ∙ apart))
    by rest false e = ap (λ (o : Option Value). if bytes_eq s.key q then Some s.value else o) rest

turned : (a b : List ℕ) → bytes_eq a b ≡ false → bytes_eq b a ≡ false
turned a b e = by (bytes_eq b a) refl
  where
    by : (t : Bool) → bytes_eq b a ≡ t → t ≡ false
    by true q = sym (bytes_same a) ∙ ap (λ (l : List ℕ). bytes_eq a l) (sym ((bytes_eq-Decides b a).0 q)) ∙ e
    by false q = refl

pub good_set : (settings : List Setting) (new : Setting) → AreGood settings → IsTaken (check new.key new.value) → AreGood (with_setting settings new)
good_set [] new good taken = (refl, taken, tt)
good_set (s ∷ settings) new good taken = by (good_set settings new good.2 taken) (bytes_eq s.key new.key) refl
  where
    by : AreGood (with_setting settings new) → (b : Bool) → bytes_eq s.key new.key ≡ b → AreGood (if b then new ∷ settings else s ∷ with_setting settings new)
    by rest true e = (subst (λ (k : List ℕ). value_of k settings ≡ None) ((bytes_eq-Decides s.key new.key).0 e) good.0, taken, good.2)
    by rest false e = (value_other settings new s.key (turned s.key new.key e) ∙ good.0, good.1, rest)

-- ---- settings in form

there : (settings : List Setting) (n : ℕ) (s : Setting) → slice_get settings n ≡ Some s → value_of s.key settings ≢ None
there [] n s p q = no (ap is_some p)
there (x ∷ settings) zero s p q = no (sym (ap is_some q) ∙ ap is_some (ap (λ (b : Bool). if b then Some x.value else value_of s.key settings) (ap (λ (y : Setting). bytes_eq y.key s.key) (some_of x s p) ∙ bytes_same s.key)))
there (x ∷ settings) (suc n) s p q = by (λ r. there settings n s p r) (bytes_eq x.key s.key) q
  where
    by : (value_of s.key settings ≡ None → ⊥) → (b : Bool) → (if b then Some x.value else value_of s.key settings) ≡ None → ⊥
    by rest true r = no (sym (ap is_some r))
    by rest false r = rest r

once : (settings : List Setting) → AreGood settings → (i j : ℕ) (a b : Setting) → slice_get settings i ≡ Some a → slice_get settings j ≡ Some b → a.key ≡ b.key → i ≡ j
once [] good i j a b p q e = no (ap is_some p)
once (s ∷ settings) good zero zero a b p q e = refl
once (s ∷ settings) good zero (suc j) a b p q e = absurd (there settings j b q (ap (λ (k : List ℕ). value_of k settings) (sym e ∙ sym (ap (λ (y : Setting). y.key) (some_of s a p))) ∙ good.0))
once (s ∷ settings) good (suc i) zero a b p q e = absurd (there settings i a p (ap (λ (k : List ℕ). value_of k settings) (e ∙ sym (ap (λ (y : Setting). y.key) (some_of s b q))) ∙ good.0))
once (s ∷ settings) good (suc i) (suc j) a b p q e = ap suc (once settings good.2 i j a b p q e)

taken : (settings : List Setting) → AreGood settings → (i : ℕ) (s : Setting) → slice_get settings i ≡ Some s → IsTaken (check s.key s.value)
taken [] good i s p = no (ap is_some p)
taken (x ∷ settings) good zero s p = subst (λ (y : Setting). IsTaken (check y.key y.value)) (some_of x s p) good.1
taken (x ∷ settings) good (suc i) s p = taken settings good.2 i s p

pub good_settings : (settings : List Setting) → AreGood settings → AreGoodSettings settings
good_settings settings good = record { once = once settings good; taken = taken settings good }
