-- For proofs alone: the places of files in memory as contracts see them.
use Rattle.std.specs.Prelude.{List, [], ◌∷◌}
use Rattle.lt_world.specs.declared.places.Place.{Place}
use Rattle.lt_world.specs.declared.places.Places.TheInside.{Inside}
use Rattle.lt_world.specs.Memory.{Placed}
use Rattle.lt_world.specs.Standing.{node_of}

-- places, each with what stands there
abbrev pub placed_by : List Place → List Placed
placed_by [] = []
placed_by (place ∷ places) = record { path = place.path; node = node_of place.standing } ∷ placed_by places

-- the places of the list
abbrev pub placed_of : Inside → List Placed
placed_of a = placed_by a.places.items
