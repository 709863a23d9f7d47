-- What a block comes to, by the other blocks of a configuration in form.
use Rattle.std.proofs.Common.{◌≡◌, ◌≢◌, ℕ, zero, suc, ◌+◌, ◌<◌, List, [], ◌∷◌, ◌++◌, length, length-append, append_assoc, slice_get, Option, Some, None, option_map, unwrap_or, refl, sym, ◌∙◌, ap, subst, arith}
use Rattle.std.proofs.lemmas.List.{append-nil}
use Rattle.std.proofs.lemmas.Option.{none-some, same_Some, slice_get_within}
use Rattle.conf_value.specs.declared.block.Block.{Block}
use Rattle.conf_value.specs.declared.block.Config.{Config}
use Rattle.conf_value.specs.declared.condition.Condition.{Condition}
use Rattle.conf_value.specs.declared.truth.Truth.{Truth}
use Rattle.conf_value.specs.declared.truth.Truth.TheVariants.{True, False, Unset}
use Rattle.conditions.specs.Attributes.{Attributes}
use Rattle.settings.specs.InForm.{IsInForm, IsBehind}
use Rattle.cond_cache.specs.Truths.{decided, above_by, own, Standing, standing_of, standings_from, standings, truth_at, branches_at}
use Rattle.cond_cache.proofs.Lists.{get_first, get_next, there}

-- the block stands behind those before it, and by them
pub record Stands (a : Attributes) (whole : List Standing) (n : ℕ) (block : Block) : Type 0 where
  pub before : List Standing
  pub behind : List Standing
  pub number : length before ≡ n
  pub is : whole ≡ before ++ standing_of a before block ∷ behind

-- those that stand first stay first
pub record Begins (before whole : List Standing) : Type 0 where
  pub behind : List Standing
  pub is : whole ≡ before ++ behind

pub begins : (a : Attributes) (before : List Standing) (blocks : List Block) → Begins before (standings_from a before blocks)
begins a before [] = record { behind = []; is = sym (append-nil before) }
begins a before (b ∷ blocks) =
    let h = begins a (before ++ standing_of a before b ∷ []) blocks in
    record { behind = standing_of a before b ∷ h.behind; is = h.is ∙ append_assoc before (standing_of a before b ∷ []) h.behind }

pub stands_from : (a : Attributes) (before : List Standing) (blocks : List Block) (n : ℕ) (b : Block) → slice_get blocks n ≡ Some b
    → Stands a (standings_from a before blocks) (length before + n) b
stands_from a before [] n b e = absurd (none-some b e)
stands_from a before (c ∷ blocks) zero b e =
    let h = begins a (before ++ standing_of a before c ∷ []) blocks in
    record {
      before = before;
      behind = h.behind;
      number = omega arith;
      is = h.is ∙ append_assoc before (standing_of a before c ∷ []) h.behind ∙ ap (λ (x : Block). before ++ standing_of a before x ∷ h.behind) (same_Some c b e);
    }
stands_from a before (c ∷ blocks) (suc n) b e =
    let h = stands_from a (before ++ standing_of a before c ∷ []) blocks n b e in
    let l = length-append before (standing_of a before c ∷ []) in
    record { before = h.before; behind = h.behind; number = omega (arith, h.number, l); is = h.is }

pub stands : (a : Attributes) (blocks : List Block) (n : ℕ) (b : Block) → slice_get blocks n ≡ Some b → Stands a (standings blocks a) n b
unfolding standings
stands a blocks n b e =
    let n_is : length {A = Standing} [] + n ≡ n = omega arith in
    subst (λ (m : ℕ). Stands a (standings_from a [] blocks) m b) n_is (stands_from a [] blocks n b e)

pub length_from : (a : Attributes) (before : List Standing) (blocks : List Block) → length (standings_from a before blocks) ≡ length before + length blocks
length_from a before [] = omega arith
length_from a before (b ∷ blocks) =
    let l = length-append before (standing_of a before b ∷ []) in
    let h = length_from a (before ++ standing_of a before b ∷ []) blocks in
    omega (arith, l, h)

-- there is one a block
pub as_many : (a : Attributes) (blocks : List Block) → length (standings blocks a) ≡ length blocks
unfolding standings
as_many a blocks = let n_is : length {A = Standing} [] + length blocks ≡ length blocks = omega arith in length_from a [] blocks ∙ n_is

module _ (a : Attributes) (blocks : List Block) (n : ℕ) (b : Block) (s : Stands a (standings blocks a) n b) where
  -- what the block comes to by those before it
  pub its : slice_get (standings blocks a) n ≡ Some (standing_of a s.before b)
  its = ap (λ (l : List Standing). slice_get l n) s.is ∙ get_next s.before s.behind (standing_of a s.before b) n s.number

  pub earlier : (m : ℕ) → m < n → slice_get s.before m ≡ slice_get (standings blocks a) m
  earlier m p =
      sym (ap (λ (l : List Standing). slice_get l m) s.is ∙ get_first s.before (standing_of a s.before b ∷ s.behind) m (omega (arith, p, s.number)))

-- an earlier branch, and then others
pub decided_on : (earlier more : List Truth) (t : Truth) → decided earlier ≡ Some t → decided (earlier ++ more) ≡ Some t
decided_on [] more t e = absurd (none-some t e)
decided_on (True ∷ earlier) more t e = e
decided_on (Unset ∷ earlier) more t e = e
decided_on (False ∷ earlier) more t e = decided_on earlier more t e

pub undecided : (earlier more : List Truth) → decided earlier ≡ None → decided (earlier ++ more) ≡ decided more
undecided [] more e = refl
undecided (True ∷ earlier) more e = absurd (none-some False (sym e))
undecided (Unset ∷ earlier) more e = absurd (none-some Unset (sym e))
undecided (False ∷ earlier) more e = undecided earlier more e

-- what a branch leaves to the next one
abbrev pub onward : Option Truth → Truth → Option Truth
onward (Some t) itself = Some t
onward None True = Some False
onward None Unset = Some Unset
onward None False = None

onward_is : (itself : Truth) → decided (itself ∷ []) ≡ onward None itself
onward_is True = refl
onward_is Unset = refl
onward_is False = refl

-- the same from all that stands before the next one
pub goes_on : (parent : Truth) (earlier : List Truth) (itself : Truth)
    → above_by parent (earlier ++ unwrap_or (above_by parent earlier) itself ∷ []) ≡ onward (above_by parent earlier) itself
goes_on False earlier itself = refl
goes_on Unset earlier itself = refl
goes_on True earlier itself = by (decided earlier) refl
  where
    by : (d : Option Truth) → decided earlier ≡ d → decided (earlier ++ unwrap_or (decided earlier) itself ∷ []) ≡ onward (decided earlier) itself
    by (Some t) e = decided_on earlier (unwrap_or (decided earlier) itself ∷ []) t e ∙ ap (λ (d : Option Truth). onward d itself) (sym e)
    by None e = undecided earlier (unwrap_or (decided earlier) itself ∷ []) e ∙ ap (λ (d : Option Truth). decided (unwrap_or d itself ∷ [])) e ∙ onward_is itself ∙ ap (λ (d : Option Truth). onward d itself) (sym e)

-- ---- in a configuration in form

-- where a branch stands behind another one, that one is
pub record Behind (blocks : List Block) (n : ℕ) (b : Block) (m : ℕ) : Type 0 where
  pub lower : m < n
  pub branch : Block
  pub is : slice_get blocks m ≡ Some branch
  pub parent : branch.parent ≡ b.parent

module _ (config : Config) (form : IsInForm config) (n : ℕ) (b : Block) (is : slice_get config.blocks n ≡ Some b) where
  pub behind : (m : ℕ) → b.chain ≡ Some m → Behind config.blocks n b m
  behind m c = by n refl
    where
      by : (k : ℕ) → n ≡ k → Behind config.blocks n b m
      by zero e = absurd (none-some m (sym (form.global b (ap (slice_get config.blocks) (sym e) ∙ is)).chain ∙ c))
      by (suc k) e =
          let h : IsBehind config.blocks n b (Some m) = subst (λ (o : Option ℕ). IsBehind config.blocks n b o) c (form.inner n b is (λ z. absurd (omega (arith, e, z)))).behind in
          let w = slice_get_within config.blocks n b is in
          let t = there config.blocks m (omega (arith, w, h.0)) in
          record { lower = h.0; branch = t.item; is = t.is; parent = h.1 t.item t.is }

  pub parent_lower : n ≢ 0 → b.parent < n
  parent_lower z = (form.inner n b is z).parent

module _ (a : Attributes) (config : Config) (form : IsInForm config) where
  -- the global block comes to True
  pub global_is : (s : Standing) → slice_get (standings config.blocks a) 0 ≡ Some s → (s.above ≡ None) × (s.truth ≡ True)
  global_is s e =
      let b = form.first.0 in
      let is = form.first.1 in
      let g = form.global b is in
      let st = stands a config.blocks 0 b is in
      let same = same_Some _ _ (sym e ∙ its a config.blocks 0 b st) in
      by st.before (omega (arith, st.number)) b g.parent g.chain g.condition s same
    where
      by : (before : List Standing) → length before ≡ 0 → (b : Block) → b.parent ≡ 0 → b.chain ≡ None → b.condition ≡ None → (s : Standing) → s ≡ standing_of a before b
          → (s.above ≡ None) × (s.truth ≡ True)
      by [] l b p c q s e = (
        ap (λ (s : Standing). s.above) e ∙ ap (λ (o : Option ℕ). decided (branches_at [] o)) c,
        ap (λ (s : Standing). s.truth) e ∙ ap (λ (o : Option ℕ). unwrap_or (decided (branches_at [] o)) (own b.condition a)) c ∙ ap (λ (o : Option Condition). own o a) q,
      )
      by (x ∷ before) l b p c q s e = absurd (omega (arith, l))

  pub global_truth : truth_at (standings config.blocks a) 0 ≡ True
  global_truth =
      let st = stands a config.blocks 0 form.first.0 form.first.1 in
      let e = its a config.blocks 0 form.first.0 st in
      ap (λ (o : Option Standing). unwrap_or (option_map (λ (s : Standing). s.truth) o) True) e ∙ (global_is (standing_of a st.before form.first.0) e).1

  module _ (n : ℕ) (b : Block) (is : slice_get config.blocks n ≡ Some b) (st : Stands a (standings config.blocks a) n b) where
    -- the parent's truth is the same among those before the block and among all
    pub around : truth_at st.before b.parent ≡ truth_at (standings config.blocks a) b.parent
    around = by n refl
      where
        outside : (before : List Standing) → length before ≡ 0 → (m : ℕ) → truth_at before m ≡ True
        outside [] l m = refl
        outside (x ∷ before) l m = absurd (omega (arith, l))

        by : (m : ℕ) → n ≡ m → truth_at st.before b.parent ≡ truth_at (standings config.blocks a) b.parent
        by zero e =
            let p = (form.global b (ap (slice_get config.blocks) (sym e) ∙ is)).parent in
            outside st.before (omega (arith, e, st.number)) b.parent ∙ sym (ap (truth_at (standings config.blocks a)) p ∙ global_truth)
        by (suc m) e = ap (λ (o : Option Standing). unwrap_or (option_map (λ (s : Standing). s.truth) o) True)
            (earlier a config.blocks n b st b.parent (form.inner n b is (λ z. absurd (omega (arith, e, z)))).parent)

  -- what comes before a branch's condition, by the branch before it
  pub above_next : (n m : ℕ) (b : Block) (is : slice_get config.blocks n ≡ Some b) (chain : b.chain ≡ Some m) (s r : Standing)
      → slice_get (standings config.blocks a) n ≡ Some s → slice_get (standings config.blocks a) m ≡ Some r
      → s.above ≡ onward r.above (own (behind config form n b is m chain).branch.condition a)
  above_next n m b is chain s r at before =
      let st = stands a config.blocks n b is in
      let h = behind config form n b is m chain in
      let sm = stands a config.blocks m h.branch h.is in
      let q = standing_of a sm.before h.branch in
      let i = its a config.blocks m h.branch sm in
      let parents : truth_at st.before b.parent ≡ truth_at sm.before h.branch.parent =
      around n b is st ∙ ap (truth_at (standings config.blocks a)) (sym h.parent) ∙ sym (around m h.branch h.is sm) in
      let branches : branches_at st.before b.chain ≡ q.branches =
      ap (branches_at st.before) chain ∙ ap (λ (o : Option Standing). unwrap_or (option_map (λ (s : Standing). s.branches) o) []) (earlier a config.blocks n b st m h.lower ∙ i) in
      ap (λ (s : Standing). s.above) (same_Some _ _ (sym at ∙ its a config.blocks n b st))
      ∙ ap (λ (t : Truth). above_by t (branches_at st.before b.chain)) parents
      ∙ ap (above_by (truth_at sm.before h.branch.parent)) branches
      ∙ goes_on (truth_at sm.before h.branch.parent) (branches_at sm.before h.branch.chain) (own h.branch.condition a)
      ∙ ap (λ (s : Standing). onward s.above (own h.branch.condition a)) (same_Some q r (sym i ∙ before))
