-- Places of a configuration.
use Rattle.std.specs.Prelude.{◌≡◌, ℕ, ◌<◌, List, length, Some, slice_get}
use Rattle.conf_value.specs.declared.block.Block.{Block}
use Rattle.settings.specs.declared.places.Place.{Place}

-- each place is in a block that there is
abbrev pub AreIn : List Block → List Place → Type 0
AreIn blocks places = (at : ℕ) (place : Place) → slice_get places at ≡ Some place → place.block < length blocks
