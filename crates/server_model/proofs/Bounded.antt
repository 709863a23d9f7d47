-- How many conditions are compared for a request, at most.
use Rattle.std.proofs.Common.{◌≡◌, ℕ, ◌+◌, ◌*◌, ◌≤◌, List, Bool, true, false, nat_lt, Option, if◌then◌else◌, arith}
use Rattle.conf_value.specs.declared.block.Block.{Block}
use Rattle.cond_cache.specs.Kept.{conditions_in}
use Rattle.http_target.specs.declared.read.Target.{Target}
use Rattle.lt_world.specs.Trace.{Act}
use Rattle.rewrite.proofs.EndLaws.{passes_within}
use Rattle.server_model.specs.Attributes.{attributes_at}
use Rattle.server_model.specs.Request.{Head, Request, Unfinished, Refused, Open, Declined, Complete}
use Rattle.server_model.specs.Rewrites.{lists_on, rewriting}
use Rattle.server_model.specs.World.{Arrival, World}
use Rattle.server_model.specs.Client.{current_request}
use Rattle.server_model.specs.Comparing.{comparisons, comparison_limit, passes_of, planned_count, passes_between}

pub rewriting_within : (blocks : List Block) (arrival : Option Arrival) (head : Head) → (rewriting blocks arrival head).passes ≤ 100
unfolding rewriting
rewriting_within blocks arrival head = passes_within (λ (target : Target). lists_on blocks (attributes_at arrival head target)) head.target

passes_few : (world : World) (request : Request) → passes_of world request ≤ 100
passes_few world Unfinished = omega arith
passes_few world (Refused status) = omega arith
passes_few world (Open head) = omega arith
passes_few world (Declined status head) = omega arith
passes_few world (Complete head content) = rewriting_within world.site.blocks world.side.arrival head

times_within : (passes many : ℕ) → passes ≤ 100 → (3 + passes) * many ≤ 103 * many
times_within passes many few = search (arith, few)

pub comparisons_within : (world : World) (request : Request) → comparisons world.site (passes_of world request) ≤ comparison_limit world.site
comparisons_within world request = times_within (passes_of world request) (conditions_in world.site.blocks) (passes_few world request)

pub between_within : (was is : World) (past now : List Act) → comparisons is.site (passes_between was past is now) ≤ comparison_limit is.site
between_within was is past now = times_within (passes_between was past is now) (conditions_in is.site.blocks) (by (nat_lt (planned_count was past) (planned_count is now)))
  where
    by : (t : Bool) → (if t then passes_of is (current_request is now) else 0) ≤ 100
    by true = passes_few is (current_request is now)
    by false = omega arith
