-- What is kept of the blocks of a configuration.
use Rattle.std.specs.Prelude.{◌≡◌, ◌≢◌, ℕ, suc, ◌+◌, ◌≤◌, Bool, List, [], ◌∷◌, length, Option, Some, None, option_map, unwrap_or, option_and_then, replicate, slice_get, nat_eq, codes, if◌then◌else◌, Result, Ok, Err}
use Rattle.std.specs.Option.{IsSome}
use Rattle.std.specs.List.{list_any, starts_with}
use Rattle.conf_value.specs.declared.block.Block.{Block}
use Rattle.conf_value.specs.declared.block.Setting.{Setting}
use Rattle.conf_value.specs.declared.condition.Condition.{Condition}
use Rattle.conf_value.specs.declared.truth.Truth.{Truth}
use Rattle.conf_value.specs.declared.truth.Truth.TheVariants.{True, False, Unset}
use Rattle.conditions.specs.Attributes.{Attributes}
use Rattle.conditions.specs.Comparing.{HasPattern, own_groups}
use Rattle.conditions.specs.Marked.{Marked}
use Rattle.cond_cache.specs.declared.place.Place.{Place}
use Rattle.cond_cache.specs.declared.place.Place.TheVariants.{Unasked, Given, Bare, Compared}
use Rattle.cond_cache.specs.Truths.{Standing, own, standings}

-- ---- groups

-- the setting is a list of rules, whose replacements may name groups of the condition
abbrev pub is_rules : Setting → Bool
is_rules setting = starts_with nat_eq setting.key (codes "url.rewrite")

-- the groups of a block's match can be asked for
abbrev pub has_rules : Block → Bool
has_rules block = list_any is_rules block.settings

abbrev pub groups_by : Bool → Option Condition → Attributes → List (List ℕ)
groups_by keep None a = []
groups_by keep (Some condition) a = if keep then own_groups condition a else []

-- the groups of the block's own match where it has rules, and else none
abbrev pub groups_of : Block → Attributes → List (List ℕ)
groups_of block a = groups_by (has_rules block) block.condition a

-- the same by the block's number
abbrev pub groups_at : List Block → Attributes → ℕ → List (List ℕ)
groups_at blocks a n = unwrap_or (option_map (λ (block : Block). groups_of block a) (slice_get blocks n)) []

-- ---- attributes that change

-- another target: the path of the file is not known any more
abbrev pub with_target : List ℕ → List ℕ → Attributes → Attributes
with_target url query a = record a { url = url; query = query; physical = None }

abbrev pub with_physical : List ℕ → List ℕ → Attributes → Attributes
with_physical url path a = record a { url = url; physical = Some path }

-- ---- places

-- nothing is kept
abbrev pub emptied : List Place → List Place
emptied places = replicate (length places) Unasked

-- the truth that is kept, if one is
abbrev pub truth_in : Place → Option Truth
truth_in Unasked = None
truth_in (Given t) = Some t
truth_in Bare = Some True
truth_in (Compared t groups) = Some t

-- the truth that is kept of the block with this number
abbrev pub kept : List Place → ℕ → Option Truth
kept places n = option_and_then truth_in (slice_get places n)

-- what a branch and those before it leave to the next one: the truth that it must have, if any
abbrev pub left_by_truth : Truth → Option Truth
left_by_truth True = Some False
left_by_truth Unset = Some Unset
left_by_truth False = None

abbrev pub left_by : Place → Option Truth
left_by Unasked = None
left_by (Given t) = Some t
left_by Bare = Some False
left_by (Compared t groups) = left_by_truth t

-- the groups that a place keeps, or else these
abbrev pub groups_in : Place → List (List ℕ) → List (List ℕ)
groups_in Unasked none = none
groups_in (Given t) none = none
groups_in Bare none = none
groups_in (Compared t groups) none = groups

-- the blocks whose condition was compared, by their numbers, of which the first is given
abbrev pub asked_from : ℕ → List Place → List ℕ
asked_from n [] = []
asked_from n (Compared t groups ∷ places) = n ∷ asked_from (suc n) places
asked_from n (Unasked ∷ places) = asked_from (suc n) places
asked_from n (Given t ∷ places) = asked_from (suc n) places
asked_from n (Bare ∷ places) = asked_from (suc n) places

abbrev pub asked : List Place → List ℕ
asked places = asked_from 0 places

-- how many blocks have a condition
abbrev pub conditions_with : Option Condition → ℕ → ℕ
conditions_with None others = others
conditions_with (Some condition) others = suc others

abbrev pub conditions_in : List Block → ℕ
conditions_in [] = 0
conditions_in (block ∷ blocks) = conditions_with block.condition (conditions_in blocks)

-- ---- what is kept is right

-- this comes before the block's own condition
abbrev pub IsAbove : List Block → Attributes → ℕ → Option Truth → Type 0
IsAbove blocks a n above = (s : Standing) → slice_get (standings blocks a) n ≡ Some s → s.above ≡ above

-- a comparison is that of the block, before whose condition no other truth came
pub record IsComparison (a : Attributes) (block : Block) (s : Standing) (its_truth : Truth) (its_groups : List (List ℕ)) : Type 0 where
  pub above : s.above ≡ None
  pub condition : IsSome block.condition
  pub truth : its_truth ≡ own block.condition a
  pub groups : its_groups ≡ groups_of block a

pub record IsBare (block : Block) (s : Standing) : Type 0 where
  pub above : s.above ≡ None
  pub condition : block.condition ≡ None

abbrev pub IsRight : Attributes → Block → Standing → Place → Type 0
IsRight a block s Unasked = Unit {0}
IsRight a block s (Given t) = s.above ≡ Some t
IsRight a block s Bare = IsBare block s
IsRight a block s (Compared t groups) = IsComparison a block s t groups

-- there is a place for each block, and what it keeps is the block's on these attributes
pub record AreRight (blocks : List Block) (a : Attributes) (places : List Place) : Type 0 where
  pub many : length places ≡ length blocks
  pub each : (n : ℕ) (block : Block) (s : Standing) (place : Place) → slice_get blocks n ≡ Some block
      → slice_get (standings blocks a) n ≡ Some s → slice_get places n ≡ Some place → IsRight a block s place

-- there is a place for each block
abbrev pub HavePlaces : List Block → List Place → Type 0
HavePlaces blocks places = length places ≡ length blocks

-- each pattern of a condition is there
abbrev pub HavePatterns : List Block → List Marked → Type 0
HavePatterns blocks patterns = (n : ℕ) (block : Block) (condition : Condition) → slice_get blocks n ≡ Some block
    → block.condition ≡ Some condition → HasPattern condition patterns

-- ---- what a call changes

-- what was kept stays
abbrev pub Stay : List Place → List Place → Type 0
Stay old new = (n : ℕ) (place : Place) → slice_get old n ≡ Some place → place ≢ Unasked → slice_get new n ≡ Some place

-- what a call keeps besides is right and of blocks below this number
pub record Comes (n : ℕ) (blocks : List Block) (a : Attributes) (old new : List Place) : Type 0 where
  pub right : AreRight blocks a new
  pub stay : Stay old new
  pub beyond : (m : ℕ) → n ≤ m → slice_get new m ≡ slice_get old m

-- the steps rise by the growth of what was asked, and by one more only where there was no memory
abbrev pub Counts : {A E : Type 0} → Result A E → List Place → List Place → ℕ → ℕ → Type 0
Counts (Ok x) old new before now = now + length (asked old) ≡ before + length (asked new)
Counts (Err e) old new before now =
    (before + length (asked new) ≤ now + length (asked old)) × (now + length (asked old) ≤ suc (before + length (asked new)))
