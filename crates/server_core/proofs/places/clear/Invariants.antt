use Rattle.std.proofs.Common.{[], length}
use Rattle.buffer_pool.specs.Kept.{Kept, HeldWithin}
use Rattle.server_core.specs.Places.{AllFree}
use Rattle.server_core.proofs.places.clear.Given as goal

abbrev pub invariant-loop-place : goal.invariant-loop-place
invariant-loop-place l = AllFree l.places.items × HeldWithin l.store 0 × Kept l.initial.store [] l.store []

abbrev pub decreases-loop-place : goal.decreases-loop-place
decreases-loop-place l = length l.places.items
