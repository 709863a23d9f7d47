-- What holds of the blocks and patterns of a load, whatever it does.
use Rattle.std.proofs.Common.{◌≡◌, ◌≢◌, ◌⊎◌, inl, inr, ℕ, zero, suc, ◌+◌, ◌<◌, ◌≤◌, ◌^◌, List, [], ◌∷◌, ◌++◌, length, slice_get, slice_set, Option, Some, None, is_some, Bool, true, false, if◌then◌else◌, refl, sym, ◌∙◌, ap, subst, append_assoc, length-append, arith}
use Rattle.std.specs.Prelude.{Result, Ok, Err, OnOk}
use Rattle.std.specs.Option.{IsSome, MatchOption}
use Rattle.std.specs.Str.{bytes_eq}
use Rattle.std.proofs.lemmas.Option.{same_Some}
use Rattle.conf_value.specs.declared.block.Block.{Block}
use Rattle.conf_value.specs.declared.block.Setting.{Setting}
use Rattle.conf_value.specs.declared.block.Config.{Config}
use Rattle.conf_value.specs.declared.condition.Condition.{Condition}
use Rattle.conf_value.specs.declared.value.Pair.{Pair, out-Pair}
use Rattle.conf_value.specs.declared.value.Value.{out-Value}
use Rattle.conditions.specs.Comparing.{HasPattern, tries_pattern}
use Rattle.conditions.specs.Marked.{Marked}
use Rattle.rewrite.specs.Rules.{Rule, rule_of, rule_by, text_of, IsPattern, ArePatterns, AreNumbered}
use Rattle.settings.specs.Indexed.{lists_of_all}
use Rattle.settings.specs.InForm as form
use Rattle.settings.specs.InForm.{IsInForm, IsGoodCondition, AreGoodSettings}
use Rattle.conf_eval.specs.Settings.{settings_of, with_key, with_setting, set_to, text_or_none, pattern_of}
use Rattle.conf_eval.specs.Opening.{block}
use Rattle.conf_eval.specs.Patterns as patterns
use Rattle.conf_eval.specs.Built.{Built}
use Rattle.conf_eval.specs.Sound.{Head, head, heads, IsBranch, IsBehind, Fits, IsTop, AreFit, AreOpen, StandsBehind, HasOwn, IsRuled, IsMade, AreRuled, ArePatterned, marks_of, IsSound, AreAllGood}
use Rattle.conf_eval.proofs.Heads.{get_more, get_middle, head_at, heads_set, fit_open}
use Rattle.conf_eval.proofs.Placed.{no}

-- ---- more patterns

module _ (ps more : List Marked) where
  own_more : (c : Condition) → HasPattern c ps → HasPattern c (ps ++ more)
  own_more c h = by c.pattern h
    where
      by : (o : Option ℕ) → MatchOption o (tries_pattern c.op ≡ false) (λ n. slice_get ps n ≡ Some (c.text, false)) → MatchOption o (tries_pattern c.op ≡ false) (λ n. slice_get (ps ++ more) n ≡ Some (c.text, false))
      by None h = h
      by (Some n) h = get_more ps more n (c.text, false) h

  has_more : (o : Option Condition) → HasOwn ps o → HasOwn (ps ++ more) o
  has_more None h = tt
  has_more (Some c) h = (h.0, own_more c h.1)

  pattern_more : (n : ℕ) (o : Option Rule) → IsPattern ps n o → IsPattern (ps ++ more) n o
  pattern_more n None h = tt
  pattern_more n (Some rule) h = get_more ps more n (rule.pattern, true) h

  rules_more : (n : ℕ) (rules : List Pair) → ArePatterns ps n rules → ArePatterns (ps ++ more) n rules
  rules_more n [] h = tt
  rules_more n (rule ∷ rules) h = (pattern_more n (rule_of rule) h.0, rules_more (n + 1) rules h.1)

  ruled_more : (settings : List Setting) → AreRuled ps settings → AreRuled (ps ++ more) settings
  ruled_more [] h = tt
  ruled_more (s ∷ settings) h = ((λ p. let k = h.0 p in record { all = rules_more _ _ k.all; few = k.few }), ruled_more settings h.1)

  patterned_more : (blocks : List Block) → ArePatterned ps blocks → ArePatterned (ps ++ more) blocks
  patterned_more [] h = tt
  patterned_more (b ∷ blocks) h = (has_more b.condition h.0, ruled_more b.settings h.1, patterned_more blocks h.2)

pub sound_add : (blocks : List Block) (ps : List Marked) (m : Marked) → IsSound (record { blocks = blocks; patterns = ps }) → length ps < 48 → IsSound (record { blocks = blocks; patterns = ps ++ m ∷ [] })
sound_add blocks ps m h few = record {
  fit = h.fit;
  patterned = patterned_more ps (m ∷ []) blocks h.patterned;
  many = h.many;
  few = let l : length (ps ++ m ∷ []) ≡ length ps + 1 = length-append ps (m ∷ []) in omega (arith, l, few);
}

-- ---- one more block

patterned_push : (ps : List Marked) (blocks : List Block) (b : Block) → ArePatterned ps blocks → HasOwn ps b.condition → AreRuled ps b.settings → ArePatterned ps (blocks ++ b ∷ [])
patterned_push ps [] b h own ruled = (own, ruled, tt)
patterned_push ps (x ∷ blocks) b h own ruled = (h.0, h.1, patterned_push ps blocks b h.2 own ruled)

pub sound_open : (blocks : List Block) (ps : List Marked) (scopes : List ℕ) (behind : Option ℕ) (condition : Option Condition) → IsSound (record { blocks = blocks; patterns = ps })
    → AreOpen scopes blocks → StandsBehind behind scopes blocks → HasOwn ps condition → (condition ≡ None → IsSome behind) → length blocks < 1025
    → IsSound (record { blocks = blocks ++ block scopes behind condition ∷ []; patterns = ps })
sound_open blocks ps scopes behind condition h open_ stands own bare few = record {
  fit = fit_open blocks scopes behind condition h.fit open_ stands bare;
  patterned = patterned_push ps blocks (block scopes behind condition) h.patterned own tt;
  many = let l : length (blocks ++ block scopes behind condition ∷ []) ≡ length blocks + 1 = length-append blocks (block scopes behind condition ∷ []) in omega (arith, l, few);
  few = h.few;
}

-- ---- a block sets a key

ruled_set : (ps : List Marked) (settings : List Setting) (new : Setting) → AreRuled ps settings → IsRuled ps new → AreRuled ps (with_setting settings new)
ruled_set ps [] new h k = (k, tt)
ruled_set ps (s ∷ settings) new h k = by (ruled_set ps settings new h.1 k) (bytes_eq s.key new.key)
  where
    by : AreRuled ps (with_setting settings new) → (b : Bool) → AreRuled ps (if b then new ∷ settings else s ∷ with_setting settings new)
    by rest true = (k, h.1)
    by rest false = (h.0, rest)

patterned_set : (ps : List Marked) (at : ℕ) (new : Setting) (blocks : List Block) → ArePatterned ps blocks → IsRuled ps new → ArePatterned ps (with_key at new blocks)
patterned_set ps at new [] h k = tt
patterned_set ps zero new (b ∷ blocks) h k = (h.0, ruled_set ps b.settings new h.1 k, h.2)
patterned_set ps (suc at) new (b ∷ blocks) h k = (h.0, h.1, patterned_set ps at new blocks h.2 k)

length_set : (at : ℕ) (new : Setting) (blocks : List Block) → length (with_key at new blocks) ≡ length blocks
length_set at new [] = refl
length_set zero new (b ∷ blocks) = refl
length_set (suc at) new (b ∷ blocks) = ap suc (length_set at new blocks)

ruled_of : (ps : List Marked) (s : Setting) → length ps ≤ 48 → IsMade ps s → IsRuled ps s
ruled_of ps s few made rule = let h = made rule in record { all = h.0; few = omega (arith, few, h.1) }

pub sound_set : (blocks : List Block) (ps : List Marked) (at : ℕ) (new : Setting) → IsSound (record { blocks = blocks; patterns = ps }) → IsMade ps new → IsSound (record { blocks = with_key at new blocks; patterns = ps })
sound_set blocks ps at new h made = record {
  fit = subst AreFit (sym (heads_set at new blocks)) h.fit;
  patterned = patterned_set ps at new blocks h.patterned (ruled_of ps new h.few made);
  many = let l : length (with_key at new blocks) ≡ length blocks = length_set at new blocks in omega (arith, l, h.many);
  few = h.few;
}

-- ---- patterns of rules

is_pattern : (ps rest : List Marked) (key text : Option (List ℕ)) → IsPattern (ps ++ (text_or_none key, true) ∷ rest) (length ps) (rule_by key text)
is_pattern ps rest None text = tt
is_pattern ps rest (Some key) None = tt
is_pattern ps rest (Some key) (Some text) = get_middle ps rest (key, true)

rules_made : (ps : List Marked) (rules : List Pair) → ArePatterns (ps ++ marks_of rules) (length ps) rules
rules_made ps [] = tt
rules_made ps (rule ∷ rules) =
    let m : Marked = (pattern_of rule, true) in (
      is_pattern ps (marks_of rules) (out-Pair rule).key (text_of (out-Value (out-Pair rule).value)),
      subst (λ (l : List Marked). ArePatterns l (length ps + 1) rules) (append_assoc ps (m ∷ []) (marks_of rules))
          (subst (λ (n : ℕ). ArePatterns ((ps ++ m ∷ []) ++ marks_of rules) n rules) (length-append ps (m ∷ [])) (rules_made (ps ++ m ∷ []) rules)),
    )

length_marks : (rules : List Pair) → length (marks_of rules) ≡ length rules
length_marks [] = refl
length_marks (rule ∷ rules) = ap suc (length_marks rules)

-- a list of rules whose patterns were made behind these
pub made_behind : (ps new : List Marked) (rules : List Pair) → new ≡ ps ++ marks_of rules → ArePatterns new (length ps) rules × (length ps + length rules ≤ length new)
made_behind ps new rules p = (
  subst (λ (l : List Marked). ArePatterns l (length ps) rules) (sym p) (rules_made ps rules),
  let l : length new ≡ length ps + length rules = ap (λ (x : List Marked). length x) p ∙ length-append ps (marks_of rules) ∙ ap (λ (n : ℕ). length ps + n) (length_marks rules) in omega (arith, l),
)

-- ---- what was loaded is in form

module _ (ps : List Marked) where
  at_number : (blocks : List Block) → ArePatterned ps blocks → (n : ℕ) (b : Block) → slice_get blocks n ≡ Some b → HasOwn ps b.condition × AreRuled ps b.settings
  at_number [] h n b p = no (ap is_some p)
  at_number (x ∷ blocks) h zero b p = subst (λ (y : Block). HasOwn ps y.condition × AreRuled ps y.settings) (same_Some x b p) (h.0, h.1)
  at_number (x ∷ blocks) h (suc n) b p = at_number blocks h.2 n b p

  own_at : (blocks : List Block) → ArePatterned ps blocks → (n : ℕ) (b : Block) (c : Condition) → slice_get blocks n ≡ Some b → b.condition ≡ Some c → IsGoodCondition c × HasPattern c ps
  own_at blocks h n b c p q = subst (HasOwn ps) q (at_number blocks h n b p).0

  ruled_at : (settings : List Setting) → AreRuled ps settings → (n : ℕ) (s : Setting) → slice_get settings n ≡ Some s → IsRuled ps s
  ruled_at [] h n s p = no (ap is_some p)
  ruled_at (x ∷ settings) h zero s p = subst (IsRuled ps) (same_Some x s p) h.0
  ruled_at (x ∷ settings) h (suc n) s p = ruled_at settings h.1 n s p

pub are_patterns : (blocks : List Block) (ps : List Marked) → IsSound (record { blocks = blocks; patterns = ps }) → patterns.ArePatterns blocks ps
are_patterns blocks ps h = record {
  few = h.few;
  conditions = λ n b c p q. (own_at ps blocks h.patterned n b c p q).1;
  rules = λ n at b s p q. ruled_at ps b.settings (at_number ps blocks h.patterned n b p).1 at s q;
}

good_at : (blocks : List Block) → AreAllGood blocks → (n : ℕ) (b : Block) → slice_get blocks n ≡ Some b → AreGoodSettings b.settings
good_at [] h n b p = no (ap is_some p)
good_at (x ∷ blocks) h zero b p = subst (λ (y : Block). AreGoodSettings y.settings) (same_Some x b p) h.0
good_at (x ∷ blocks) h (suc n) b p = good_at blocks h.1 n b p

pub good_push : (blocks : List Block) (b : Block) → AreAllGood blocks → AreGoodSettings b.settings → AreAllGood (blocks ++ b ∷ [])
good_push [] b h good = (good, tt)
good_push (x ∷ blocks) b h good = (h.0, good_push blocks b h.1 good)

first_block : (blocks : List Block) → 0 < length (heads blocks) → (b : Block) × (slice_get blocks 0 ≡ Some b)
first_block [] some = absurd (omega (arith, some))
first_block (b ∷ blocks) some = (b, refl)

-- the head of a block that is there
same_head : (blocks : List Block) (n : ℕ) (h : Head) (b : Block) → slice_get (heads blocks) n ≡ Some h → slice_get blocks n ≡ Some b → h ≡ head b
same_head blocks n h b p q = same_Some h (head b) (sym p ∙ head_at blocks n b q)

module _ (blocks : List Block) (fit : AreFit (heads blocks)) where
  global_at : (b : Block) → slice_get blocks 0 ≡ Some b → form.IsGlobal b
  global_at b p = let t = fit.top (head b) (head_at blocks 0 b p) in record { parent = t.parent; chain = t.chain; condition = t.condition }

  behind_at : (n : ℕ) (b : Block) (o : Option ℕ) → IsBehind (heads blocks) n b.parent o → form.IsBehind blocks n b o
  behind_at n b None h = tt
  behind_at n b (Some before) h = (h.0, λ branch q. ap (λ (x : Head). x.parent) (sym (same_head blocks before h.1.0 branch h.1.1 q)) ∙ h.1.2)

  -- no branch stands behind a bare `else`
  none_behind : (n : ℕ) (b : Block) → slice_get blocks n ≡ Some b → b.condition ≡ None → (m : ℕ) (other : Block) → slice_get blocks m ≡ Some other → other.chain ≢ Some n
  none_behind n b p bare zero other q e = no (ap is_some (sym (fit.top (head other) (head_at blocks 0 other q)).chain ∙ e))
  none_behind n b p bare (suc m) other q e =
      let f = fit.each (suc m) (head other) (head_at blocks (suc m) other q) (λ z. absurd (omega (arith, z))) in
      let h : IsBehind (heads blocks) (suc m) other.parent (Some n) = subst (IsBehind (heads blocks) (suc m) other.parent) e f.behind in
      no (sym (ap is_some bare) ∙ ap (λ (x : Head). is_some x.condition) (sym (same_head blocks n h.1.0 b h.1.1 p)) ∙ h.1.3)

  inner_at : (n : ℕ) (b : Block) → slice_get blocks n ≡ Some b → n ≢ 0 → form.IsInner blocks n b
  inner_at n b p other = let f = fit.each n (head b) (head_at blocks n b p) other in record {
    parent = f.parent;
    behind = behind_at n b b.chain f.behind;
    last = λ bare. (f.bare bare, none_behind n b p bare);
  }

pub in_form : (config : Config) (ps : List Marked) → IsSound (record { blocks = config.blocks; patterns = ps }) → AreAllGood config.blocks → lists_of_all config.blocks < 2 ^ 32 → IsInForm config
in_form config ps h good lists = record {
  first = first_block config.blocks h.fit.some;
  global = global_at config.blocks h.fit;
  inner = inner_at config.blocks h.fit;
  conditions = λ n b c p q. (own_at ps config.blocks h.patterned n b c p q).0;
  settings = good_at config.blocks good;
  few = omega (arith, h.many);
  lists = lists;
}

-- ---- what a block sets a key to

pub settings_at : (blocks : List Block) (n : ℕ) (b : Block) → slice_get blocks n ≡ Some b → settings_of n blocks ≡ b.settings
settings_at [] n b p = no (ap is_some p)
settings_at (x ∷ blocks) zero b p = ap (λ (y : Block). y.settings) (same_Some x b p)
settings_at (x ∷ blocks) (suc n) b p = settings_at blocks n b p

pub settings_none : (blocks : List Block) (n : ℕ) → slice_get blocks n ≡ None → settings_of n blocks ≡ []
settings_none [] n p = refl
settings_none (x ∷ blocks) zero p = no (sym (ap is_some p))
settings_none (x ∷ blocks) (suc n) p = settings_none blocks n p

pub set_at : (blocks : List Block) (n : ℕ) (b : Block) (new : Setting) → slice_get blocks n ≡ Some b → slice_set blocks n (set_to b (with_setting b.settings new)) ≡ with_key n new blocks
set_at [] n b new p = no (ap is_some p)
set_at (x ∷ blocks) zero b new p = ap (λ (y : Block). set_to y (with_setting y.settings new) ∷ blocks) (sym (same_Some x b p))
set_at (x ∷ blocks) (suc n) b new p = ap (λ (l : List Block). x ∷ l) (set_at blocks n b new p)

pub on_ok : {A E P Q : Type 0} (r : Result A E) → (P → Q) → OnOk r P → OnOk r Q
on_ok (Ok x) f h = f h
on_ok (Err x) f h = h
