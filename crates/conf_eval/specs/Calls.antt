-- The calls of a load on the outside.
use Rattle.std.specs.Prelude.{ℕ, List, [], ◌∷◌, ◌++◌}
use Rattle.lt_world.specs.declared.texts.Fetch.{Fetch}
use Rattle.conditions.specs.declared.made.Asked.{Asked}

-- calls on the texts and calls on the maker of patterns, each in order
pub record Calls : Type 0 where
  pub texts : List Fetch
  pub makes : List Asked

abbrev pub no_calls : Calls
no_calls = record { texts = []; makes = [] }

-- some calls, and then others
abbrev pub before : Calls → Calls → Calls
before calls others = record { texts = calls.texts ++ others.texts; makes = calls.makes ++ others.makes }
