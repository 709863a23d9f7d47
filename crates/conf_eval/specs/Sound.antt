-- A device: what holds of the blocks and patterns of a load at every moment.
use Rattle.std.specs.Prelude.{◌≡◌, ◌≢◌, ℕ, ◌+◌, ◌<◌, ◌≤◌, ◌++◌, true, List, [], ◌∷◌, length, map, Option, Some, None, slice_get, MatchOption}
use Rattle.std.specs.Option.{IsSome}
use Rattle.conf_value.specs.declared.block.Block.{Block}
use Rattle.conf_value.specs.declared.block.Setting.{Setting}
use Rattle.conf_value.specs.declared.condition.Condition.{Condition}
use Rattle.conf_value.specs.declared.value.Value.{out-Value}
use Rattle.conf_value.specs.declared.value.Pair.{Pair}
use Rattle.conditions.specs.Marked.{Marked}
use Rattle.conditions.specs.Comparing.{HasPattern}
use Rattle.rewrite.specs.Rules.{AreNumbered, ArePatterns}
use Rattle.settings.specs.Keys.{is_rule_list}
use Rattle.settings.specs.Kinds.{pairs_in}
use Rattle.settings.specs.InForm.{AreGoodSettings, IsGoodCondition}
use Rattle.conf_eval.specs.Built.{Built}
use Rattle.conf_eval.specs.Settings.{innermost, pattern_of}
use Rattle.conf_eval.specs.Opening.{block}

-- ---- where blocks stand

-- what stays of a block once it is open
pub record Head : Type 0 where
  pub parent : ℕ
  pub chain : Option ℕ
  pub condition : Option Condition

abbrev pub head : Block → Head
head b = record { parent = b.parent; chain = b.chain; condition = b.condition }

abbrev pub heads : List Block → List Head
heads blocks = map head blocks

-- a branch with a condition, in the block with this number
abbrev pub IsBranch : List Head → ℕ → ℕ → Type 0
IsBranch heads parent n = (h : Head) × (slice_get heads n ≡ Some h) × (h.parent ≡ parent) × IsSome h.condition

abbrev pub IsBehind : List Head → ℕ → ℕ → Option ℕ → Type 0
IsBehind heads number parent None = Unit {0}
IsBehind heads number parent (Some n) = (n < number) × IsBranch heads parent n

-- the block around it has a lower number, and so has the branch before it; a bare `else` has one
pub record Fits (heads : List Head) (number : ℕ) (h : Head) : Type 0 where
  pub parent : h.parent < number
  pub behind : IsBehind heads number h.parent h.chain
  pub bare : h.condition ≡ None → IsSome h.chain

pub record IsTop (h : Head) : Type 0 where
  pub parent : h.parent ≡ 0
  pub chain : h.chain ≡ None
  pub condition : h.condition ≡ None

pub record AreFit (heads : List Head) : Type 0 where
  pub some : 0 < length heads
  pub top : (h : Head) → slice_get heads 0 ≡ Some h → IsTop h
  pub each : (n : ℕ) (h : Head) → slice_get heads n ≡ Some h → n ≢ 0 → Fits heads n h

-- blocks were opened, and settings changed
pub record Grows (old new : List Block) : Type 0 where
  pub more : List Head
  pub is : heads new ≡ heads old ++ more

-- these blocks are there
abbrev pub AreOpen : List ℕ → List Block → Type 0
AreOpen [] blocks = Unit {0}
AreOpen (n ∷ scopes) blocks = (n < length blocks) × AreOpen scopes blocks

-- a branch stands there, in the innermost of these blocks
abbrev pub StandsBehind : Option ℕ → List ℕ → List Block → Type 0
StandsBehind None scopes blocks = Unit {0}
StandsBehind (Some n) scopes blocks = IsBranch (heads blocks) (innermost scopes) n

-- ---- patterns

-- a condition is good, and its pattern is there
abbrev pub HasOwn : List Marked → Option Condition → Type 0
HasOwn patterns None = Unit {0}
HasOwn patterns (Some condition) = IsGoodCondition condition × HasPattern condition patterns

-- the patterns of a list of rules are there
abbrev pub IsRuled : List Marked → Setting → Type 0
IsRuled patterns s = is_rule_list s.key ≡ true → AreNumbered patterns s.first_pattern (pairs_in (out-Value s.value))

-- they were made one behind another
abbrev pub IsMade : List Marked → Setting → Type 0
IsMade patterns s = is_rule_list s.key ≡ true
    → ArePatterns patterns s.first_pattern (pairs_in (out-Value s.value)) × (s.first_pattern + length (pairs_in (out-Value s.value)) ≤ length patterns)

abbrev pub AreRuled : List Marked → List Setting → Type 0
AreRuled patterns [] = Unit {0}
AreRuled patterns (s ∷ settings) = IsRuled patterns s × AreRuled patterns settings

abbrev pub ArePatterned : List Marked → List Block → Type 0
ArePatterned patterns [] = Unit {0}
ArePatterned patterns (b ∷ blocks) = HasOwn patterns b.condition × AreRuled patterns b.settings × ArePatterned patterns blocks

-- ---- all of it

pub record IsSound (built : Built) : Type 0 where
  pub fit : AreFit (heads built.blocks)
  pub patterned : ArePatterned built.patterns built.blocks
  pub many : length built.blocks ≤ 1025
  pub few : length built.patterns ≤ 48

-- the patterns of rules
abbrev pub marks_of : List Pair → List Marked
marks_of [] = []
marks_of (rule ∷ rules) = (pattern_of rule, true) ∷ marks_of rules

-- a branch with a condition was opened in these blocks
pub record Opens (old : List Block) (scopes : List ℕ) (new : List Block) : Type 0 where
  pub behind : Option ℕ
  pub condition : Condition
  pub is : new ≡ old ++ block scopes behind (Some condition) ∷ []

-- no block sets a key twice, and each typed key has a value that it takes
abbrev pub AreAllGood : List Block → Type 0
AreAllGood [] = Unit {0}
AreAllGood (b ∷ blocks) = AreGoodSettings b.settings × AreAllGood blocks
