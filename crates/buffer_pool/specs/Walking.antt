-- What a walk has left.
use Rattle.std.specs.Prelude.{◌≡◌, ◌<◌, ◌≤◌, List, length, drop}
use Rattle.buffer_pool.specs.Links.{states_of, place_or}
use Rattle.buffer_pool.specs.State.{ChunkState}
use Rattle.buffer_pool.specs.declared.views.Walk.TheInside.{Inside}

-- the chunks that were not shown yet
abbrev pub rest_of : Inside → List ChunkState
rest_of w = drop w.next (states_of w.nodes.now.cells)

-- `at` is the place of the next one
abbrev pub IsWalk : Inside → Type 0
IsWalk w = (w.len ≡ length (states_of w.nodes.now.cells)) × (w.next ≤ w.len) × (w.next < w.len → w.at ≡ place_or w.nodes.now.cells w.next w.at)
