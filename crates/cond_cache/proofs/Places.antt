-- What is kept of the blocks stays right, and is counted.
use Rattle.std.proofs.Common.{◌≡◌, ◌≢◌, ◌⊎◌, inl, inr, ℕ, zero, suc, ◌+◌, ◌<◌, ◌≤◌, List, [], ◌∷◌, ◌++◌, length, slice_get, slice_set, Option, Some, None, option_map, option_and_then, is_some, unwrap_or, replicate, Result, Ok, Err, IfOk, refl, sym, ◌∙◌, ap, subst, arith}
use Rattle.std.proofs.lemmas.Bool.{cases_eq}
use Rattle.std.proofs.lemmas.List.{length-set, length-replicate}
use Rattle.std.proofs.lemmas.Option.{none-some, same_Some, slice_get_within}
use Rattle.conf_value.specs.declared.block.Block.{Block}
use Rattle.conf_value.specs.declared.block.Config.{Config}
use Rattle.conf_value.specs.declared.condition.Condition.{Condition}
use Rattle.conf_value.specs.declared.truth.Truth.{Truth}
use Rattle.conf_value.specs.declared.truth.Truth.TheVariants.{True, False, Unset}
use Rattle.conditions.specs.Attributes.{Attributes}
use Rattle.conditions.specs.Comparing.{own_truth}
use Rattle.settings.specs.InForm.{IsInForm}
use Rattle.cond_cache.specs.declared.place.Place.{Place}
use Rattle.cond_cache.specs.declared.place.Place.TheVariants.{Unasked, Given, Bare, Compared}
use Rattle.cond_cache.specs.Truths.{above_by, decided, own, Standing, standing_of, standings, truth_at, branches_at, truth_of}
use Rattle.cond_cache.specs.Kept.{AreRight, Comes, IsAbove, IsComparison, IsRight, groups_at, groups_by, groups_in, groups_of, has_rules, asked_from, kept, left_by, truth_in}
use Rattle.cond_cache.proofs.Lists.{there, put_there, put_elsewhere}
use Rattle.cond_cache.proofs.Standing.{stands, its, onward, above_next, global_is, around, behind}

-- ---- counts

-- how many comparisons a place keeps
abbrev pub comparisons : Place → ℕ
comparisons Unasked = 0
comparisons (Given t) = 0
comparisons Bare = 0
comparisons (Compared t groups) = 1

asked_first : (n : ℕ) (places : List Place) (p : Place) → length (asked_from n (p ∷ places)) ≡ length (asked_from (suc n) places) + comparisons p
asked_first n places Unasked = omega arith
asked_first n places (Given t) = omega arith
asked_first n places Bare = omega arith
asked_first n places (Compared t groups) = omega arith

-- what is put at a place that was not asked for
pub asked_more : (n m : ℕ) (places : List Place) (p : Place) → slice_get places m ≡ Some Unasked
    → length (asked_from n (slice_set places m p)) ≡ length (asked_from n places) + comparisons p
asked_more n m [] p e = absurd (none-some Unasked e)
asked_more n zero (q ∷ places) p e =
    subst (λ (x : Place). length (asked_from n (p ∷ places)) ≡ length (asked_from n (x ∷ places)) + comparisons p) (sym (same_Some q Unasked e)) (asked_first n places p)
asked_more n (suc m) (Unasked ∷ places) p e = asked_more (suc n) m places p e
asked_more n (suc m) (Given t ∷ places) p e = asked_more (suc n) m places p e
asked_more n (suc m) (Bare ∷ places) p e = asked_more (suc n) m places p e
asked_more n (suc m) (Compared t groups ∷ places) p e = let h = asked_more (suc n) m places p e in omega (arith, h)

-- ---- a truth that is kept

pub record IsKeptAs (places : List Place) (n : ℕ) (t : Truth) : Type 0 where
  pub place : Place
  pub is : slice_get places n ≡ Some place
  pub truth : truth_in place ≡ Some t

pub kept_as : (places : List Place) (n : ℕ) (t : Truth) → kept places n ≡ Some t → IsKeptAs places n t
kept_as places n t e = by (slice_get places n) refl
  where
    by : (o : Option Place) → slice_get places n ≡ o → IsKeptAs places n t
    by None f = absurd (none-some t (sym (ap (option_and_then truth_in) f) ∙ e))
    by (Some place) f = record { place = place; is = f; truth = sym (ap (option_and_then truth_in) f) ∙ e }

-- a block of which no truth is kept was not asked for
pub not_kept : (places : List Place) (n : ℕ) → n < length places → kept places n ≡ None → slice_get places n ≡ Some Unasked
not_kept places n p e = let t = there places n p in by t.item t.is
  where
    by : (place : Place) → slice_get places n ≡ Some place → slice_get places n ≡ Some Unasked
    by Unasked f = f
    by (Given t) f = absurd (none-some t (sym e ∙ ap (option_and_then truth_in) f))
    by Bare f = absurd (none-some True (sym e ∙ ap (option_and_then truth_in) f))
    by (Compared t groups) f = absurd (none-some t (sym e ∙ ap (option_and_then truth_in) f))

module _ (a : Attributes) (b : Block) (s : Standing) (itself : s.truth ≡ unwrap_or s.above (own b.condition a)) where
  -- it is the block's
  pub right_truth : (place : Place) (t : Truth) → IsRight a b s place → truth_in place ≡ Some t → s.truth ≡ t
  right_truth Unasked t r e = absurd (none-some t e)
  right_truth (Given u) t r e = itself ∙ ap (λ (o : Option Truth). unwrap_or o (own b.condition a)) r ∙ same_Some u t e
  right_truth Bare t r e = itself ∙ ap (λ (o : Option Truth). unwrap_or o (own b.condition a)) r.above ∙ ap (λ (o : Option Condition). own o a) r.condition ∙ same_Some True t e
  right_truth (Compared u groups) t r e = itself ∙ ap (λ (o : Option Truth). unwrap_or o (own b.condition a)) r.above ∙ sym r.truth ∙ same_Some u t e

  -- and tells what the block leaves to the branch behind it
  pub right_left : (place : Place) (t : Truth) → IsRight a b s place → truth_in place ≡ Some t → onward s.above (own b.condition a) ≡ left_by place
  right_left Unasked t r e = absurd (none-some t e)
  right_left (Given u) t r e = ap (λ (o : Option Truth). onward o (own b.condition a)) r
  right_left Bare t r e = ap (λ (o : Option Truth). onward o (own b.condition a)) r.above ∙ ap (λ (o : Option Condition). onward None (own o a)) r.condition
  right_left (Compared u groups) t r e = ap (λ (o : Option Truth). onward o (own b.condition a)) r.above ∙ ap (onward None) (sym r.truth) ∙ leaves u
    where
      leaves : (u : Truth) → onward None u ≡ left_by (Compared u groups)
      leaves True = refl
      leaves False = refl
      leaves Unset = refl

module _ (a : Attributes) (config : Config) (form : IsInForm config) (places : List Place) (right : AreRight config.blocks a places) where
  -- a truth that is kept is the block's
  pub truth_is : (n : ℕ) (t : Truth) → n < length config.blocks → kept places n ≡ Some t → truth_of config.blocks a n ≡ t
  truth_is n t p e =
      let b = there config.blocks n p in
      let k = kept_as places n t e in
      let st = stands a config.blocks n b.item b.is in
      let i = its a config.blocks n b.item st in
      ap (λ (o : Option Standing). unwrap_or (option_map (λ (s : Standing). s.truth) o) True) i
      ∙ right_truth a b.item (standing_of a st.before b.item) refl k.place t (right.each n b.item (standing_of a st.before b.item) k.place b.is i k.is) k.truth

  -- where the branch before a block is kept, it tells what comes before the block's condition
  pub above_branch : (n m : ℕ) (t : Truth) (b : Block) → slice_get config.blocks n ≡ Some b → b.chain ≡ Some m → kept places m ≡ Some t
      → IsAbove config.blocks a n (option_and_then left_by (slice_get places m))
  above_branch n m t b is chain e s at =
      let h = behind config form n b is m chain in
      let sm = stands a config.blocks m h.branch h.is in
      let k = kept_as places m t e in
      let r = standing_of a sm.before h.branch in
      let i = its a config.blocks m h.branch sm in
      above_next a config form n m b is chain s r at i
      ∙ right_left a h.branch r refl k.place t (right.each m h.branch r k.place h.is i k.is) k.truth
      ∙ ap (option_and_then left_by) (sym k.is)

  -- where there is no branch before it, its parent does
  pub above_parent : (n : ℕ) (t : Truth) (b : Block) → slice_get config.blocks n ≡ Some b → b.chain ≡ None → b.parent < length config.blocks → kept places b.parent ≡ Some t
      → IsAbove config.blocks a n (above_by t [])
  above_parent n t b is chain p e s at =
      let st = stands a config.blocks n b is in
      ap (λ (s : Standing). s.above) (same_Some _ _ (sym at ∙ its a config.blocks n b st))
      ∙ ap (λ (o : Option ℕ). above_by (truth_at st.before b.parent) (branches_at st.before o)) chain
      ∙ ap (λ (t : Truth). above_by t []) (around a config form n b is st ∙ truth_is b.parent t p e)

-- nothing comes before the global block
pub above_global : (a : Attributes) (config : Config) → IsInForm config → IsAbove config.blocks a 0 None
above_global a config form s at = (global_is a config form s at).0

-- ---- what is put

module _ (blocks : List Block) (a : Attributes) (n : ℕ) (old mid : List Place) (comes : Comes n blocks a old mid) (asked_for : slice_get old n ≡ Some Unasked) where
  pub still : slice_get mid n ≡ Some Unasked
  still = comes.beyond n (omega arith) ∙ asked_for

  -- a place that is right takes the place of one that was not asked for
  pub put : (p : Place) → ((b : Block) (s : Standing) → slice_get blocks n ≡ Some b → slice_get (standings blocks a) n ≡ Some s → IsRight a b s p)
      → Comes (suc n) blocks a old (slice_set mid n p)
  put p is = record {
    right = record {
      many = length-set mid n p ∙ comes.right.many;
      each = λ m b s q e f g. each m b s q e f g (cases_eq m n);
    };
    stay = λ m q e f. stays m q e f (cases_eq m n);
    beyond = λ m l. put_elsewhere mid n m p (λ e. omega (arith, l, e)) ∙ comes.beyond m (omega (arith, l));
  }
    where
      within : n < length mid
      within = slice_get_within mid n Unasked still

      each : (m : ℕ) (b : Block) (s : Standing) (q : Place) → slice_get blocks m ≡ Some b → slice_get (standings blocks a) m ≡ Some s → slice_get (slice_set mid n p) m ≡ Some q
          → (m ≡ n) ⊎ (m ≡ n → ⊥) → IsRight a b s q
      each m b s q e f g (inl same) =
          subst (IsRight a b s) (same_Some p q (sym (put_there mid n p within) ∙ ap (slice_get (slice_set mid n p)) (sym same) ∙ g))
          (is b s (ap (slice_get blocks) (sym same) ∙ e) (ap (slice_get (standings blocks a)) (sym same) ∙ f))
      each m b s q e f g (inr other) = comes.right.each m b s q e f (sym (put_elsewhere mid n m p other) ∙ g)

      stays : (m : ℕ) (q : Place) → slice_get old m ≡ Some q → q ≢ Unasked → (m ≡ n) ⊎ (m ≡ n → ⊥) → slice_get (slice_set mid n p) m ≡ Some q
      stays m q e f (inl same) = absurd (f (same_Some q Unasked (sym e ∙ ap (slice_get old) same ∙ asked_for)))
      stays m q e f (inr other) = put_elsewhere mid n m p other ∙ comes.stay m q e f

-- where nothing is put, all stays
pub unchanged : (blocks : List Block) (a : Attributes) (n : ℕ) (places : List Place) → AreRight blocks a places → Comes n blocks a places places
unchanged blocks a n places right = record { right = right; stay = λ m q e f. e; beyond = λ m l. refl }

pub higher : (blocks : List Block) (a : Attributes) (n m : ℕ) (old new : List Place) → m ≤ n → Comes m blocks a old new → Comes n blocks a old new
higher blocks a n m old new p comes = record { right = comes.right; stay = comes.stay; beyond = λ k l. comes.beyond k (omega (arith, p, l)) }

-- one call after another
pub followed : (blocks : List Block) (a : Attributes) (n : ℕ) (old mid new : List Place) → Comes n blocks a old mid → Comes (suc n) blocks a mid new → Comes (suc n) blocks a old new
followed blocks a n old mid new first then = record {
  right = then.right;
  stay = λ m q e f. then.stay m q (first.stay m q e f) f;
  beyond = λ m l. then.beyond m l ∙ first.beyond m (omega (arith, l));
}

-- ---- where nothing is kept

replicated : (k n : ℕ) (place : Place) → slice_get (replicate k Unasked) n ≡ Some place → place ≡ Unasked
replicated zero n place e = absurd (none-some place e)
replicated (suc k) zero place e = sym (same_Some Unasked place e)
replicated (suc k) (suc n) place e = replicated k n place e

-- it is right on any attributes
pub nothing_right : (blocks : List Block) (a : Attributes) (k : ℕ) → k ≡ length blocks → AreRight blocks a (replicate k Unasked)
nothing_right blocks a k p = record {
  many = length-replicate k Unasked ∙ p;
  each = λ n b s place e f g. subst (IsRight a b s) (sym (replicated k n place g)) tt;
}

-- one place more
pub one_more : (k : ℕ) → replicate k Unasked ++ Unasked ∷ [] ≡ replicate (k + 1) Unasked
one_more k = let next : suc k ≡ k + 1 = omega arith in by k ∙ ap (λ (n : ℕ). replicate n Unasked) next
  where
    by : (k : ℕ) → replicate k Unasked ++ Unasked ∷ [] ≡ replicate (suc k) Unasked
    by zero = refl
    by (suc k) = ap (λ (l : List Place). Unasked ∷ l) (by k)

-- where each place was not asked for
pub all_unasked : (k : ℕ) (places : List Place) → length places ≡ k → ((m : ℕ) → m < k → slice_get places m ≡ Some Unasked) → places ≡ replicate k Unasked
all_unasked zero [] p h = refl
all_unasked zero (q ∷ places) p h = absurd (omega (arith, p))
all_unasked (suc k) [] p h = absurd (omega (arith, p))
all_unasked (suc k) (q ∷ places) p h =
    ap (λ (x : Place). x ∷ places) (same_Some q Unasked (h 0 (omega arith)))
    ∙ ap (λ (l : List Place). Unasked ∷ l) (all_unasked k places (omega (arith, p)) (λ m l. h (suc m) (omega (arith, l))))

-- one more place is emptied
pub emptied_next : (places : List Place) (k : ℕ) → k < length places → ((m : ℕ) → m < k → slice_get places m ≡ Some Unasked)
    → (m : ℕ) → m < k + 1 → slice_get (slice_set places k Unasked) m ≡ Some Unasked
emptied_next places k within h m l = by (cases_eq m k)
  where
    by : (m ≡ k) ⊎ (m ≡ k → ⊥) → slice_get (slice_set places k Unasked) m ≡ Some Unasked
    by (inl same) = ap (slice_get (slice_set places k Unasked)) same ∙ put_there places k Unasked within
    by (inr other) = put_elsewhere places k m Unasked other ∙ h m (omega (arith, l, other))

pub none_asked : (n k : ℕ) → asked_from n (replicate k Unasked) ≡ []
none_asked n zero = refl
none_asked n (suc k) = none_asked (suc n) k

-- ---- comparisons

-- the comparison of a block before whose condition no truth came
pub compared_right : (a : Attributes) (inner : Block) (condition : Condition) (t : Truth) (groups : List (List ℕ)) → inner.condition ≡ Some condition
    → t ≡ own_truth condition a → groups ≡ groups_by (has_rules inner) (Some condition) a
    → (b : Block) (s : Standing) → inner ≡ b → s.above ≡ None → IsComparison a b s t groups
compared_right a inner condition t groups is truth_eq groups_eq b s same above = subst (λ (b : Block). IsComparison a b s t groups) same (record {
  above = above;
  condition = ap is_some is;
  truth = truth_eq ∙ ap (λ (o : Option Condition). own o a) (sym is);
  groups = groups_eq ∙ ap (λ (o : Option Condition). groups_by (has_rules inner) o a) (sym is);
})

-- ---- what is told

-- a truth that was found is the block's
pub checked : {E : Type 0} (a : Attributes) (config : Config) → IsInForm config → (places : List Place) → AreRight config.blocks a places → (n : ℕ) → n < length config.blocks
    → (result : Result Truth E) → IfOk result (λ t. kept places n ≡ Some t) → IfOk result (λ t. t ≡ truth_of config.blocks a n)
checked a config form places right n p (Ok t) e = sym (truth_is a config form places right n t p e)
checked a config form places right n p (Err x) e = tt

-- no other truth makes a block True
abbrev pub order : Truth → ℕ
order True = 0
order False = 1
order Unset = 2

never_decided : (earlier : List Truth) → decided earlier ≡ Some True → ⊥
never_decided [] e = none-some True e
never_decided (True ∷ earlier) e = let n : 1 ≡ 0 = ap order (same_Some False True e) in absurd (omega (arith, n))
never_decided (Unset ∷ earlier) e = let n : 2 ≡ 0 = ap order (same_Some Unset True e) in absurd (omega (arith, n))
never_decided (False ∷ earlier) e = never_decided earlier e

pub never_above : (parent : Truth) (earlier : List Truth) → above_by parent earlier ≡ Some True → ⊥
never_above True earlier e = never_decided earlier e
never_above False earlier e = let n : 1 ≡ 0 = ap order (same_Some False True e) in absurd (omega (arith, n))
never_above Unset earlier e = let n : 2 ≡ 0 = ap order (same_Some Unset True e) in absurd (omega (arith, n))

-- the groups that are kept of a block that is True are its own
pub group_is : (blocks : List Block) (a : Attributes) (places : List Place) → AreRight blocks a places → (n : ℕ) (place : Place) → slice_get places n ≡ Some place → kept places n ≡ Some True
    → groups_in place [] ≡ groups_at blocks a n
group_is blocks a places right n place is e =
    let b = there blocks n (omega (arith, slice_get_within places n place is, right.many)) in
    let st = stands a blocks n b.item b.is in
    let i = its a blocks n b.item st in
    by place (standing_of a st.before b.item) b.item (never_above (truth_at st.before b.item.parent) (branches_at st.before b.item.chain)) (right.each n b.item (standing_of a st.before b.item) place b.is i is)
    (sym (ap (option_and_then truth_in) is) ∙ e)
    ∙ sym (ap (λ (o : Option Block). unwrap_or (option_map (λ (b : Block). groups_of b a) o) []) b.is)
  where
    by : (place : Place) (s : Standing) (b : Block) → (s.above ≡ Some True → ⊥) → IsRight a b s place → truth_in place ≡ Some True → groups_in place [] ≡ groups_of b a
    by Unasked s b never r e = absurd (none-some True e)
    by (Given t) s b never r e = absurd (never (r ∙ e))
    by Bare s b never r e = sym (ap (λ (o : Option Condition). groups_by (has_rules b) o a) r.condition)
    by (Compared t groups) s b never r e = r.groups
