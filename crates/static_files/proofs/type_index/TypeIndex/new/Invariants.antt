use Rattle.std.proofs.Common.{◌<◌, length, take}
use Rattle.static_files.specs.TypeSlots.{AreSlots}
use Rattle.static_files.proofs.type_index.TypeIndex.new.Given as goal

abbrev pub invariant-loop-pair : goal.invariant-loop-pair
invariant-loop-pair l = record { some : 0 < length l.slots.items; slots : AreSlots l.slots.items (take l.pair-index l.types) }
