-- The truths of the blocks of a configuration (lighttpd documentation, "Conditional configuration").
use Rattle.std.specs.Prelude.{ℕ, List, [], ◌∷◌, ◌++◌, map, Option, Some, None, option_map, unwrap_or, slice_get}
use Rattle.conf_value.specs.declared.block.Block.{Block}
use Rattle.conf_value.specs.declared.condition.Condition.{Condition}
use Rattle.conf_value.specs.declared.truth.Truth.{Truth}
use Rattle.conf_value.specs.declared.truth.Truth.TheVariants.{True, False, Unset}
use Rattle.conditions.specs.Attributes.{Attributes}
use Rattle.conditions.specs.Comparing.{own_truth}

-- what the earlier branches of its chain, from the first, make of a block: the first that isn't False decides
abbrev pub decided : List Truth → Option Truth
decided [] = None
decided (True ∷ later) = Some False
decided (Unset ∷ later) = Some Unset
decided (False ∷ later) = decided later

-- the truth that comes before a block's own condition: that of its parent where it isn't True, else what the earlier
-- branches make of it
abbrev pub above_by : Truth → List Truth → Option Truth
above_by True earlier = decided earlier
above_by False earlier = Some False
above_by Unset earlier = Some Unset

-- the truth of the condition; the global block and a bare `else` have none, and are True by themselves
abbrev pub own : Option Condition → Attributes → Truth
own None a = True
own (Some condition) a = own_truth condition a

-- what a block comes to
pub record Standing : Type 0 where
  -- the truth that comes before its own condition, if one does
  pub above : Option Truth
  pub truth : Truth
  -- the truths of its chain, from the first branch to this one
  pub branches : List Truth

abbrev pub standing : Option Truth → Truth → List Truth → Standing
standing above itself earlier = record { above = above; truth = unwrap_or above itself; branches = earlier ++ unwrap_or above itself ∷ [] }

-- the truth of the block with this number; the global block has no other around it
abbrev pub truth_at : List Standing → ℕ → Truth
truth_at blocks n = unwrap_or (option_map (λ (s : Standing). s.truth) (slice_get blocks n)) True

-- the truths of a chain up to the branch with this number
abbrev pub branches_at : List Standing → Option ℕ → List Truth
branches_at blocks None = []
branches_at blocks (Some n) = unwrap_or (option_map (λ (s : Standing). s.branches) (slice_get blocks n)) []

-- what a block comes to by the blocks before it
abbrev pub standing_of : Attributes → List Standing → Block → Standing
standing_of a before block =
    standing (above_by (truth_at before block.parent) (branches_at before block.chain)) (own block.condition a) (branches_at before block.chain)

abbrev pub standings_from : Attributes → List Standing → List Block → List Standing
standings_from a before [] = before
standings_from a before (block ∷ blocks) = standings_from a (before ++ standing_of a before block ∷ []) blocks

-- what the blocks come to, in their order, each by those before it
unfoldable pub standings : List Block → Attributes → List Standing
standings blocks a = standings_from a [] blocks

-- the truths of the blocks, one a block
abbrev pub truths_of : List Block → Attributes → List Truth
truths_of blocks a = map (λ (s : Standing). s.truth) (standings blocks a)

-- the truth of the block with this number
abbrev pub truth_of : List Block → Attributes → ℕ → Truth
truth_of blocks a n = truth_at (standings blocks a) n
