-- An index of media types as contracts see it: the list of which it was made.
use Rattle.std.specs.Prelude.{◌<◌, List, length}
use Rattle.conf_value.specs.declared.value.Pair.{Pair}
use Rattle.static_files.specs.declared.type_index.TypeIndex.TheInside.{Inside}
use Rattle.static_files.specs.TypeSlots.{AreSlots}

abbrev pub types_in : Inside → List Pair
types_in a = a.types.now

pub record IsIndexed (a : Inside) : Type 0 where
  pub some : 0 < length a.slots.items
  pub slots : AreSlots a.slots.items a.types.now
