use Rattle.std.proofs.Common.{◌≡◌, map, take}
use Rattle.request_plan.specs.Kept.{types_at}
use Rattle.request_plan.proofs.planner.tables_of.Given as goal

abbrev pub invariant-loop-place : goal.invariant-loop-place
invariant-loop-place l = l.tables ≡ map (types_at l.config.blocks) (take l.place-index l.places)
