-- What was found of the conditions as a request is looked at first.
use Rattle.std.proofs.Common.{◌≡◌, ℕ, ◌≤◌, List, length, ap, arith}
use Rattle.cond_cache.specs.Kept.{conditions_in}
use Rattle.server_model.specs.Request.{Head}
use Rattle.server_model.specs.World.{Arrival}
use Rattle.request_plan.specs.Kept.{Kept, IsFresh, IsRightFor, asked_of}

-- nothing was found, which is right for any request
pub fresh_right : (p : Kept) → IsFresh p → (arrival : Arrival) (head : Head) → IsRightFor arrival head p
fresh_right p fresh arrival head = fresh.right _

pub fresh_few : (p : Kept) → IsFresh p → asked_of p ≤ conditions_in p.site.blocks
fresh_few p fresh = omega (arith, ap (λ (l : List ℕ). length l) fresh.none)
