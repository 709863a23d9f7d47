use Rattle.std.proofs.Common.{◌≡◌, ◌≤◌, take, vec_len}
use Rattle.lt_world.specs.Disk.{Missing}
use Rattle.lt_world.specs.Memory.{last_at}
use Rattle.lt_world.specs.PlaceView.{placed_by}
use Rattle.lt_world.proofs.places.Places.last_at.Given as goal

abbrev pub invariant-loop-i : goal.invariant-loop-i
invariant-loop-i l = (l.i ≤ vec_len l.self-inside.places) × (last_at l.path (placed_by l.self-inside.places.items) Missing ≡ last_at l.path (placed_by (take l.i l.self-inside.places.items)) Missing)

abbrev pub decreases-loop-i : goal.decreases-loop-i
decreases-loop-i l = l.i
