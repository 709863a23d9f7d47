use Rattle.std.proofs.Common.{◌≡◌, ◌≤◌, ◌-◌, vec_len, vec_capacity}
use Rattle.server_core.specs.Places.{AllFree}
use Rattle.server_core.specs.declared.places.TheConstants.{CONNECTION_LIMIT}
use Rattle.server_core.proofs.places.free_places.Given as goal

abbrev pub invariant-loop-alloc : goal.invariant-loop-alloc
invariant-loop-alloc l = (vec_len l.places ≤ CONNECTION_LIMIT) × (CONNECTION_LIMIT ≤ vec_capacity l.places) × AllFree l.places.items × (l.store ≡ l.initial.store)

abbrev pub decreases-loop-alloc : goal.decreases-loop-alloc
decreases-loop-alloc l = CONNECTION_LIMIT - vec_len l.places
