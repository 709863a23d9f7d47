-- The list of rules that wins: its block is True, and its patterns are there.
use Rattle.std.proofs.Common.{◌≡◌, ℕ, ◌+◌, ◌<◌, ◌^◌, zero, suc, Bool, true, false, cond, List, [], ◌∷◌, length, take, get_or, position, Option, None, Some, refl, sym, ◌∙◌, ap, subst, add-zero, arith, lit<}
use Rattle.std.specs.Prelude.{slice_get, codes, ◌||◌}
use Rattle.std.specs.List.{list_any}
use Rattle.std.specs.Str.{bytes_eq}
use Rattle.std.specs.Option.{option_map}
use Rattle.std.proofs.lemmas.Option.{none-some, same_Some, slice_get_within, slice_get-get_or}
use Rattle.std.proofs.lemmas.List.Quantifiers.{position-Some}
use Rattle.conf_value.specs.declared.block.Block.{Block}
use Rattle.conf_value.specs.declared.block.Config.{Config}
use Rattle.conf_value.specs.declared.block.Setting.{Setting}
use Rattle.conf_value.specs.declared.truth.Truth.{Truth}
use Rattle.conf_value.specs.declared.truth.Truth.TheVariants.{True}
use Rattle.conf_value.specs.declared.value.Pair.{Pair}
use Rattle.conf_value.specs.declared.value.Value.{out-Value}
use Rattle.conditions.specs.Attributes.{Attributes}
use Rattle.conditions.specs.Marked.{Marked}
use Rattle.cond_cache.specs.Truths.{truth_of}
use Rattle.cond_cache.proofs.Standing.{global_truth}
use Rattle.settings.specs.declared.key.Key.{Key}
use Rattle.settings.specs.declared.key.Key.TheVariants.{Modules, RewriteOnce, RewriteRepeat}
use Rattle.settings.specs.declared.places.Place.{Place}
use Rattle.settings.specs.InForm.{IsInForm}
use Rattle.settings.specs.Indexed.{is_of, place_of, places_of, places_from, with_place, lists_of, winner, last_true}
use Rattle.settings.specs.Keys.{name, is_rule_list, is_global}
use Rattle.settings.specs.Kinds.{pairs_in}
use Rattle.settings.specs.Used.{Placed, RuleList, setting_at, with_setting, in_block, of_module, is_name, rules_or_none, pairs_or_none, values_where}
use Rattle.rewrite.specs.Rules.{AreNumbered}
use Rattle.request_settings.specs.Values.{values_on}
use Rattle.request_settings.specs.Lists.{HaveRules}
use Rattle.request_settings.proofs.LastTrue.{IsHeld, is_held}

-- ---- what stands at a key's places

-- a setting of the key stands at the place, in one of the blocks, the first of which has this number
record Sets (key : List ℕ) (number : ℕ) (blocks : List Block) (place : Place) : Type 0 where
  pub at : ℕ
  pub number_is : place.block ≡ number + at
  pub block : Block
  pub block_is : slice_get blocks at ≡ Some block
  pub setting : Setting
  pub setting_is : slice_get block.settings place.at ≡ Some setting
  pub of : is_of key setting ≡ true

-- the first setting of a key has it
record First (key : List ℕ) (settings : List Setting) (at : ℕ) : Type 0 where
  pub setting : Setting
  pub is : slice_get settings at ≡ Some setting
  pub of : is_of key setting ≡ true

first_of : (key : List ℕ) (settings : List Setting) (at : ℕ) → position (is_of key) settings ≡ Some at → First key settings at
first_of key [] at e = absurd (none-some at e)
first_of key (x ∷ settings) at e =
    let p = position-Some (is_of key) (x ∷ settings) at x e in
    record { setting = get_or (x ∷ settings) at x; is = slice_get-get_or (x ∷ settings) at x p.0; of = p.1 }

sets_from : (key : List ℕ) (number lists : ℕ) (blocks : List Block) (n : ℕ) (place : Place) → slice_get (places_from key number lists blocks) n ≡ Some place → Sets key number blocks place
sets_from key number lists [] n place e = absurd (none-some place e)
sets_from key number lists (block ∷ blocks) n place e =
    by (λ m f. sets_from key (number + 1) (lists + lists_of block.settings) blocks m place f) (position (is_of key) block.settings) refl n e
  where
    rest : List Place
    rest = places_from key (number + 1) (lists + lists_of block.settings) blocks

    Behind : Type 0
    Behind = (m : ℕ) → slice_get rest m ≡ Some place → Sets key (number + 1) blocks place

    behind : Behind → (m : ℕ) → slice_get rest m ≡ Some place → Sets key number (block ∷ blocks) place
    behind others m f =
        let s = others m f in
        record { at = suc s.at; number_is = s.number_is ∙ omega arith; block = s.block; block_is = s.block_is; setting = s.setting; setting_is = s.setting_is; of = s.of }

    here : (at : ℕ) → position (is_of key) block.settings ≡ Some at → record { block = number; at = at; first_list = lists + lists_of (take at block.settings) } ≡ place → Sets key number (block ∷ blocks) place
    here at is same =
        let f = first_of key block.settings at is in
        record {
          at = 0;
          number_is = sym (ap (λ (p : Place). p.block) same) ∙ sym (add-zero number);
          block = block;
          block_is = refl;
          setting = f.setting;
          setting_is = sym (ap (λ (p : Place). slice_get block.settings p.at) same) ∙ f.is;
          of = f.of;
        }

    by : Behind → (found : Option ℕ) → position (is_of key) block.settings ≡ found → (m : ℕ)
        → slice_get (with_place (option_map (λ at. record { block = number; at = at; first_list = lists + lists_of (take at block.settings) }) found) rest) m ≡ Some place → Sets key number (block ∷ blocks) place
    by others None is m f = behind others m f
    by others (Some at) is zero f = here at is (same_Some _ place f)
    by others (Some at) is (suc m) f = behind others m f

-- the places of a list of rules, which counts in each block
sets_rules : (key : Key) (blocks : List Block) (n : ℕ) (place : Place) → is_global key ≡ false → slice_get (places_of blocks key) n ≡ Some place → Sets (name key) 0 blocks place
unfolding places_of
sets_rules key blocks n place other e =
    sets_from (name key) 0 0 blocks n place (sym (ap (λ (b : Bool). slice_get (places_from (name key) 0 0 (cond b (take 1 blocks) blocks)) n) other) ∙ e)

-- ---- the list that wins

-- what is owed of the list that wins
pub record Rules (config : Config) (a : Attributes) (patterns : List Marked) (rules : RuleList) : Type 0 where
  pub within : rules.block < length config.blocks
  pub held : truth_of config.blocks a rules.block ≡ True
  pub numbered : AreNumbered patterns rules.first_pattern rules.rules

module _ (config : Config) (form : IsInForm config) (a : Attributes) (patterns : List Marked) (there : HaveRules config.blocks patterns) where
  -- no list
  none : Rules config a patterns (rules_or_none None)
  none = record {
    within = slice_get_within config.blocks 0 form.first.0 form.first.1;
    held = global_truth a config form;
    numbered = record { all = tt; few = lit< tt };
  }

  module _ (key : Key) (every : is_global key ≡ false) (ruled : (setting : Setting) → is_of (name key) setting ≡ true → is_rule_list setting.key ≡ true) where
    -- the list at the place that counts
    at_place : (place : Place) → winner config.blocks (truth_of config.blocks a) key ≡ Some place → Rules config a patterns (rules_or_none (setting_at config.blocks (Some place)))
    at_place place e =
        let h = is_held (truth_of config.blocks a) (places_of config.blocks key) place e in
        let s = sets_rules key config.blocks h.at place every h.is in
        let number : place.block ≡ s.at = s.number_is ∙ omega arith in
        let block_is : slice_get config.blocks place.block ≡ Some s.block = ap (slice_get config.blocks) number ∙ s.block_is in
        let found : setting_at config.blocks (Some place) ≡ Some (record { place = place; setting = s.setting }) =
        ap (λ (b : Option Block). with_setting place (in_block b place.at)) block_is ∙ ap (with_setting place) s.setting_is in
        subst (λ (f : Option Placed). Rules config a patterns (rules_or_none f)) (sym found)
        (record {
          within = slice_get_within config.blocks place.block s.block block_is;
          held = h.held;
          numbered = there place.block place.at s.block s.setting block_is s.setting_is (ruled s.setting s.of);
        })

    at_winner : (o : Option Place) → winner config.blocks (truth_of config.blocks a) key ≡ o → Rules config a patterns (rules_or_none (setting_at config.blocks o))
    at_winner (Some place) e = at_place place e
    at_winner None e = none

    -- where its module is named, or not
    pub of_named : (module_name : List ℕ) (modules : List Pair) → Rules config a patterns (rules_or_none (of_module module_name modules (setting_at config.blocks (winner config.blocks (truth_of config.blocks a) key))))
    of_named module_name modules = by (list_any (is_name module_name) modules)
      where
        by : (b : Bool) → Rules config a patterns (rules_or_none (cond b (setting_at config.blocks (winner config.blocks (truth_of config.blocks a) key)) None))
        by true = at_winner (winner config.blocks (truth_of config.blocks a) key) refl
        by false = none

once_is_rules : (setting : Setting) → is_of (name RewriteOnce) setting ≡ true → is_rule_list setting.key ≡ true
unfolding name
once_is_rules setting e = ap (λ (b : Bool). b || bytes_eq setting.key (codes "url.rewrite-repeat")) e

or_true : (b : Bool) → (b || true) ≡ true
or_true true = refl
or_true false = refl

repeat_is_rules : (setting : Setting) → is_of (name RewriteRepeat) setting ≡ true → is_rule_list setting.key ≡ true
unfolding name
repeat_is_rules setting e = ap (λ (b : Bool). bytes_eq setting.key (codes "url.rewrite-once") || b) e ∙ or_true (bytes_eq setting.key (codes "url.rewrite-once"))

module _ (config : Config) (form : IsInForm config) (a : Attributes) (patterns : List Marked) (there : HaveRules config.blocks patterns) where
  pub once_wins : Rules config a patterns (values_on config.blocks a).url_rewrite_once
  unfolding values_on
  once_wins = of_named config form a patterns there RewriteOnce refl once_is_rules (codes "mod_rewrite") (pairs_or_none (setting_at config.blocks (winner config.blocks (truth_of config.blocks a) Modules)))

  pub repeat_wins : Rules config a patterns (values_on config.blocks a).url_rewrite_repeat
  unfolding values_on
  repeat_wins = of_named config form a patterns there RewriteRepeat refl repeat_is_rules (codes "mod_rewrite") (pairs_or_none (setting_at config.blocks (winner config.blocks (truth_of config.blocks a) Modules)))
