-- An array, one level down, and a sum, one term further.
use Rattle.std.proofs.Common.{◌≡◌, ◌≢◌, ℕ, zero, suc, ◌-◌, List, [], Option, Bool, false, ◌&&◌, ◌∷◌, Ok, Err, refl, ap, sym, ◌∙◌, arith}
use Rattle.std.specs.List.{list_all}
use Rattle.conf_value.specs.declared.value.Value.{Value, out-Value}
use Rattle.conf_value.specs.declared.value.Pair.{Pair, out-Pair}
use Rattle.conf_parse.specs.declared.tree.Item.{Item}
use Rattle.conf_parse.specs.declared.tree.Term.{Term, out-Term}
use Rattle.conf_eval.specs.declared.halt.Halt.{Halt}
use Rattle.conf_eval.specs.declared.halt.Halt.TheVariants as halt
use Rattle.conf_eval.specs.declared.halt.Wrong.TheVariants.{Deep}
use Rattle.conf_eval.specs.Answers.{Is}
use Rattle.conf_eval.specs.Faults.{proceed}
use Rattle.conf_eval.specs.Values.{Text, Valued, joins, term_of, added, sum_of, array_value, items_of, array_within, value_is_within}

module _ (look : Text → Option Value) where
  pub array_none : (d : ℕ) (items : List Item) → d ≡ 0 → array_value look d items ≡ Err Deep
  unfolding array_value
  array_none zero items e = refl
  array_none (suc d) items e = absurd (omega arith)

  pub array_open : (d : ℕ) (items : List Item) → d ≢ 0 → array_value look d items ≡ items_of look (array_value look (d - 1)) [] items
  unfolding array_value
  array_open zero items n = absurd (n refl)
  array_open (suc d) items n = ap (λ (y : ℕ). items_of look (array_value look y) [] items) (let e : d ≡ suc d - 1 = omega arith in e)

pub within_none : (d : ℕ) (pairs : List Pair) → d ≡ 0 → array_within d pairs ≡ false
unfolding array_within
within_none zero pairs e = refl
within_none (suc d) pairs e = absurd (omega arith)

pub within_open : (d : ℕ) (pairs : List Pair) → d ≢ 0 → array_within d pairs ≡ list_all (λ p. value_is_within (array_within (d - 1)) (out-Value (out-Pair p).value)) pairs
unfolding array_within
within_open zero pairs n = absurd (n refl)
within_open (suc d) pairs n = ap (λ (y : ℕ). list_all (λ p. value_is_within (array_within y) (out-Value (out-Pair p).value)) pairs) (let e : d ≡ suc d - 1 = omega arith in e)

-- a test that fails at the first of what is left
pub all_fails : {A : Type 0} (f : A → Bool) (xs rest : List A) (x : A) → xs ≡ x ∷ rest → f x ≡ false → list_all f xs ≡ false
all_fails f xs rest x p e = ap (list_all f) p ∙ ap (λ (b : Bool). b && list_all f rest) e

-- ---- sums

module _ (look : List ℕ → Option Value) (array : List Item → Valued) (start value : Value) (all left rest : List Term) (item : Term) (is : left ≡ item ∷ rest)
    (so_far : added look array value left ≡ added look array start all) where
  -- one more term was added
  pub sum_goes : (next : Value) → proceed (term_of look array (out-Term item)) (joins value) ≡ Ok next → added look array next rest ≡ added look array start all
  sum_goes next p = sym (ap (added look array value) is ∙ ap (λ (d : Valued). proceed d (λ sum. added look array sum rest)) p) ∙ so_far

  -- or it stops the sum
  pub sum_stops : (terms : List Term) (first : Term) (h : Halt) → terms ≡ first ∷ all → term_of look array (out-Term first) ≡ Ok start
      → Is (proceed (term_of look array (out-Term item)) (joins value)) (Err h) → Is (sum_of look array terms) (Err h)
  sum_stops terms first halt.NoMemory p q r = tt
  sum_stops terms first (halt.Wrong x) p q r = ap (sum_of look array) p ∙ ap (λ (d : Valued). proceed d (λ value. added look array value all)) q
      ∙ sym so_far ∙ ap (added look array value) is ∙ ap (λ (d : Valued). proceed d (λ sum. added look array sum rest)) r
