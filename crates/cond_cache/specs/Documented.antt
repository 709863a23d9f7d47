-- What the documentation says of a block's truth, by the truths of others (lighttpd documentation, "Conditional configuration").
use Rattle.std.specs.Prelude.{◌≡◌, ℕ, List, Some, slice_get}
use Rattle.conf_value.specs.declared.block.Block.{Block}
use Rattle.conf_value.specs.declared.truth.Truth.TheVariants.{True, False, Unset}
use Rattle.conditions.specs.Attributes.{Attributes}
use Rattle.cond_cache.specs.Truths.{own, truth_of}

-- a branch stands earlier in the chain of another one
pub data IsEarlier (blocks : List Block) : ℕ → ℕ → Type 0 where
  next : {n m : ℕ} {block : Block} → slice_get blocks n ≡ Some block → block.chain ≡ Some m → IsEarlier blocks m n
  further : {k n m : ℕ} {block : Block} → IsEarlier blocks k m → slice_get blocks n ≡ Some block → block.chain ≡ Some m → IsEarlier blocks k n

pub record IsDocumented (blocks : List Block) (a : Attributes) (n : ℕ) (block : Block) : Type 0 where
  -- in a block that isn't True
  pub in_false : truth_of blocks a block.parent ≡ False → truth_of blocks a n ≡ False
  pub in_unset : truth_of blocks a block.parent ≡ Unset → truth_of blocks a n ≡ Unset
  -- behind a branch that isn't False
  pub behind_true : (m : ℕ) → IsEarlier blocks m n → truth_of blocks a m ≡ True → truth_of blocks a n ≡ False
  pub behind_unset : (m : ℕ) → IsEarlier blocks m n → truth_of blocks a m ≡ Unset → truth_of blocks a n ≡ Unset
  -- in a block that is True, behind branches that are all False
  pub by_itself : truth_of blocks a block.parent ≡ True → ((m : ℕ) → IsEarlier blocks m n → truth_of blocks a m ≡ False)
      → truth_of blocks a n ≡ own block.condition a
