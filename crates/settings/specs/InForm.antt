-- A configuration in form: what every call that reads one may rely on, and what loading gives.
use Rattle.std.specs.Prelude.{◌≡◌, ◌≢◌, ℕ, ◌<◌, ◌^◌, List, length, Option, Some, None, slice_get}
use Rattle.std.specs.Option.{IsSome}
use Rattle.conf_value.specs.declared.block.Block.{Block}
use Rattle.conf_value.specs.declared.block.Setting.{Setting}
use Rattle.conf_value.specs.declared.block.Config.{Config}
use Rattle.conf_value.specs.declared.condition.Condition.{Condition}
use Rattle.conf_value.specs.declared.condition.Field.{Field}
use Rattle.conf_value.specs.declared.condition.Field.TheVariants as field
use Rattle.conf_value.specs.declared.condition.Op.{Op}
use Rattle.conf_value.specs.declared.condition.Op.TheVariants as op
use Rattle.conf_value.specs.Addresses.{network_of}
use Rattle.settings.specs.declared.checking.KeyCheck.{KeyCheck}
use Rattle.settings.specs.declared.checking.KeyCheck.TheVariants.{Known, Partly, Unknown}
use Rattle.settings.specs.Checking.{check}
use Rattle.settings.specs.Indexed.{lists_of_all}

-- ---- conditions

-- a pattern stands exactly behind `=~` and `!~`
abbrev pub HasPattern : Op → Option ℕ → Type 0
HasPattern op.Match pattern = IsSome pattern
HasPattern op.NoMatch pattern = IsSome pattern
HasPattern other pattern = pattern ≡ None

-- what `==` and `!=` compare an address with is a network
abbrev pub HasNetwork : Field → Op → List ℕ → Type 0
HasNetwork field.RemoteIp op.Equal text = IsSome (network_of text)
HasNetwork field.RemoteIp op.NotEqual text = IsSome (network_of text)
HasNetwork other op text = Unit {0}

pub record IsGoodCondition (condition : Condition) : Type 0 where
  pub pattern : HasPattern condition.op condition.pattern
  pub network : HasNetwork condition.field condition.op condition.text

-- ---- settings

-- a typed key has a value that it takes
abbrev pub IsTaken : KeyCheck → Type 0
IsTaken Known = Unit {0}
IsTaken Partly = Unit {0}
IsTaken Unknown = Unit {0}
IsTaken other = ⊥

pub record AreGoodSettings (settings : List Setting) : Type 0 where
  -- no key is set twice
  pub once : (i j : ℕ) (a b : Setting) → slice_get settings i ≡ Some a → slice_get settings j ≡ Some b → a.key ≡ b.key → i ≡ j
  pub taken : (i : ℕ) (setting : Setting) → slice_get settings i ≡ Some setting → IsTaken (check setting.key setting.value)

-- ---- blocks

-- the global block is its own parent, and has neither chain nor condition
pub record IsGlobal (block : Block) : Type 0 where
  pub parent : block.parent ≡ 0
  pub chain : block.chain ≡ None
  pub condition : block.condition ≡ None

-- the branch before this one, if there is one, stands earlier in the same block
abbrev pub IsBehind : List Block → ℕ → Block → Option ℕ → Type 0
IsBehind blocks number block None = Unit {0}
IsBehind blocks number block (Some before) =
    (before < number) × ((branch : Block) → slice_get blocks before ≡ Some branch → branch.parent ≡ block.parent)

-- a bare `else` follows a branch, and none follows it
abbrev pub IsLast : List Block → ℕ → Block → Type 0
IsLast blocks number block =
    block.condition ≡ None → IsSome block.chain × ((n : ℕ) (other : Block) → slice_get blocks n ≡ Some other → other.chain ≢ Some number)

pub record IsInner (blocks : List Block) (number : ℕ) (block : Block) : Type 0 where
  pub parent : block.parent < number
  pub behind : IsBehind blocks number block block.chain
  pub last : IsLast blocks number block

pub record IsInForm (config : Config) : Type 0 where
  -- block 0 is there
  pub first : (block : Block) × (slice_get config.blocks 0 ≡ Some block)
  pub global : (block : Block) → slice_get config.blocks 0 ≡ Some block → IsGlobal block
  pub inner : (n : ℕ) (block : Block) → slice_get config.blocks n ≡ Some block → n ≢ 0 → IsInner config.blocks n block
  pub conditions : (n : ℕ) (block : Block) (condition : Condition) → slice_get config.blocks n ≡ Some block → block.condition ≡ Some condition → IsGoodCondition condition
  pub settings : (n : ℕ) (block : Block) → slice_get config.blocks n ≡ Some block → AreGoodSettings block.settings
  pub few : length config.blocks < 2 ^ 32
  -- lists of hosts
  pub lists : lists_of_all config.blocks < 2 ^ 32
