-- A device: the blocks so far, with the patterns that were made.
use Rattle.std.specs.Prelude.{List}
use Rattle.conf_value.specs.declared.block.Block.{Block}
use Rattle.conditions.specs.Marked.{Marked}

pub record Built : Type 0 where
  pub blocks : List Block
  pub patterns : List Marked
