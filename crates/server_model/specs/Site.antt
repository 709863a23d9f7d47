-- What a server serves.
use Rattle.std.specs.Prelude.{List}
use Rattle.conf_value.specs.declared.block.Block.{Block}

pub record Site : Type 0 where
  -- the blocks of the configuration, the global one first
  pub blocks : List Block

-- what a configuration of these blocks says
abbrev pub site_at : List Block → Site
site_at blocks = record { blocks = blocks }
