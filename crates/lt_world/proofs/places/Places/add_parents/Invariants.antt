use Rattle.std.proofs.Common.{◌≡◌, [], take, drop}
use Rattle.lt_world.specs.Memory.{tree_by, with_directories, parents}
use Rattle.lt_world.specs.Standing.{AddsPlaces}
use Rattle.lt_world.proofs.places.Places.add_parents.Given as goal

abbrev pub invariant-loop-i : goal.invariant-loop-i
invariant-loop-i l = AddsPlaces l.initial.self l.self × (with_directories (parents [] l.path) (tree_by l.initial.self) ≡ with_directories (parents (take l.i l.path) (drop l.i l.path)) (tree_by l.self))
