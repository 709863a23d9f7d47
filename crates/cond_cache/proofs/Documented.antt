-- The truths are what the documentation says of them.
use Rattle.std.proofs.Common.{◌≡◌, ℕ, zero, suc, ◌<◌, List, [], slice_get, Option, Some, None, option_map, unwrap_or, refl, sym, ◌∙◌, ap, arith}
use Rattle.std.proofs.lemmas.Option.{same_Some}
use Rattle.conf_value.specs.declared.block.Block.{Block}
use Rattle.conf_value.specs.declared.block.Config.{Config}
use Rattle.conf_value.specs.declared.truth.Truth.{Truth}
use Rattle.conf_value.specs.declared.truth.Truth.TheVariants.{True, False, Unset}
use Rattle.conditions.specs.Attributes.{Attributes}
use Rattle.settings.specs.InForm.{IsInForm}
use Rattle.cond_cache.specs.Documented.{IsDocumented, IsEarlier, next, further}
use Rattle.cond_cache.specs.Kept.{IsAbove}
use Rattle.cond_cache.specs.Truths.{above_by, own, Standing, standing_of, truth_at, branches_at, truth_of}
use Rattle.cond_cache.proofs.Places.{never_above, order}
use Rattle.cond_cache.proofs.Standing.{above_next, around, behind, its, onward, stands}

-- what a branch of this truth leaves to the next one
left_true : (o : Option Truth) (t : Truth) → (o ≡ Some True → ⊥) → unwrap_or o t ≡ True → onward o t ≡ Some False
left_true (Some u) t never e = absurd (never (ap Some e))
left_true None True never e = refl
left_true None False never e = let n : 1 ≡ 0 = ap order e in absurd (omega (arith, n))
left_true None Unset never e = let n : 2 ≡ 0 = ap order e in absurd (omega (arith, n))

left_unset : (o : Option Truth) (t : Truth) → unwrap_or o t ≡ Unset → onward o t ≡ Some Unset
left_unset (Some u) t e = ap Some e
left_unset None Unset e = refl
left_unset None True e = let n : 0 ≡ 2 = ap order e in absurd (omega (arith, n))
left_unset None False e = let n : 1 ≡ 2 = ap order e in absurd (omega (arith, n))

module _ (a : Attributes) (config : Config) (form : IsInForm config) where
  -- the truth by what comes before the condition
  by_above : (n : ℕ) (b : Block) → slice_get config.blocks n ≡ Some b → (o : Option Truth) → IsAbove config.blocks a n o → truth_of config.blocks a n ≡ unwrap_or o (own b.condition a)
  by_above n b is o above =
      let st = stands a config.blocks n b is in
      let i = its a config.blocks n b st in
      ap (λ (o : Option Standing). unwrap_or (option_map (λ (s : Standing). s.truth) o) True) i ∙ ap (λ (o : Option Truth). unwrap_or o (own b.condition a)) (above (standing_of a st.before b) i)

  -- a block in one that isn't True
  in_other : (t : Truth) → ((earlier : List Truth) → above_by t earlier ≡ Some t) → (n : ℕ) (b : Block) → slice_get config.blocks n ≡ Some b → truth_of config.blocks a b.parent ≡ t → truth_of config.blocks a n ≡ t
  in_other t same n b is e =
      let st = stands a config.blocks n b is in
      by_above n b is (Some t) (λ s at. ap (λ (s : Standing). s.above) (same_Some _ _ (sym at ∙ its a config.blocks n b st))
      ∙ ap (λ (p : Truth). above_by p (branches_at st.before b.chain)) (around a config form n b is st ∙ e) ∙ same (branches_at st.before b.chain))

  -- a block behind a branch that leaves it this truth
  behind_one : (m n : ℕ) (u : Truth) → IsEarlier config.blocks m n
      → ((o : Option Truth) (t : Truth) → (o ≡ Some True → ⊥) → truth_of config.blocks a m ≡ unwrap_or o t → onward o t ≡ Some u) → IsAbove config.blocks a n (Some u)
  behind_one m n u (next {block = b} is chain) leaves s at =
      let h = behind config form n b is m chain in
      let sm = stands a config.blocks m h.branch h.is in
      let r = standing_of a sm.before h.branch in
      let i = its a config.blocks m h.branch sm in
      above_next a config form n m b is chain s r at i
      ∙ leaves r.above (own h.branch.condition a) (never_above (truth_at sm.before h.branch.parent) (branches_at sm.before h.branch.chain))
      (ap (λ (o : Option Standing). unwrap_or (option_map (λ (s : Standing). s.truth) o) True) i)
  behind_one m n u (further {m = k} {block = b} earlier is chain) leaves s at =
      let h = behind config form n b is k chain in
      let sm = stands a config.blocks k h.branch h.is in
      let r = standing_of a sm.before h.branch in
      let i = its a config.blocks k h.branch sm in
      above_next a config form n k b is chain s r at i ∙ ap (λ (o : Option Truth). onward o (own h.branch.condition a)) (behind_one m k u earlier leaves r i)

  -- behind branches that are all False; blocks below the limit are known
  behind_false : (limit n : ℕ) (b : Block) (o : Option ℕ) → b.chain ≡ o → n < limit → slice_get config.blocks n ≡ Some b → truth_of config.blocks a b.parent ≡ True
      → ((m : ℕ) → IsEarlier config.blocks m n → truth_of config.blocks a m ≡ False) → IsAbove config.blocks a n None
  behind_false zero n b o chain low is parent all s at = absurd (omega (arith, low))
  behind_false (suc limit) n b None chain low is parent all s at =
      let st = stands a config.blocks n b is in
      ap (λ (s : Standing). s.above) (same_Some _ _ (sym at ∙ its a config.blocks n b st))
      ∙ ap (λ (o : Option ℕ). above_by (truth_at st.before b.parent) (branches_at st.before o)) chain
      ∙ ap (λ (p : Truth). above_by p []) (around a config form n b is st ∙ parent)
  behind_false (suc limit) n b (Some m) chain low is parent all s at =
      let h = behind config form n b is m chain in
      let sm = stands a config.blocks m h.branch h.is in
      let r = standing_of a sm.before h.branch in
      let i = its a config.blocks m h.branch sm in
      let above : IsAbove config.blocks a m None =
      behind_false limit m h.branch h.branch.chain refl (omega (arith, low, h.lower)) h.is (ap (truth_of config.blocks a) h.parent ∙ parent) (λ k e. all k (further e is chain)) in
      above_next a config form n m b is chain s r at i
      ∙ ap (λ (o : Option Truth). onward o (own h.branch.condition a)) (above r i)
      ∙ ap (onward None) (sym (by_above m h.branch h.is None above) ∙ all m (next is chain))

  pub documented : (n : ℕ) (b : Block) → slice_get config.blocks n ≡ Some b → IsDocumented config.blocks a n b
  documented n b is = record {
    in_false = in_other False (λ earlier. refl) n b is;
    in_unset = in_other Unset (λ earlier. refl) n b is;
    behind_true = λ m e t. by_above n b is (Some False) (behind_one m n False e (λ o u never f. left_true o u never (sym f ∙ t)));
    behind_unset = λ m e t. by_above n b is (Some Unset) (behind_one m n Unset e (λ o u never f. left_unset o u (sym f ∙ t)));
    by_itself = λ parent all. by_above n b is None (behind_false (suc n) n b b.chain refl (omega arith) is parent all);
  }
