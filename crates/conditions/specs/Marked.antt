-- Patterns by their texts, each with the mark whether it is a rule's.
use Rattle.std.specs.Prelude.{◌≡◌, ℕ, Bool, true, List, Some, slice_get}

-- the text of a pattern, and whether a rule has it
abbrev pub Marked : Type 0
Marked = List ℕ × Bool

-- the pattern with this number is there and is a rule's
pub record IsRule (patterns : List Marked) (n : ℕ) : Type 0 where
  pub source : List ℕ
  pub marked : slice_get patterns n ≡ Some (source, true)
