-- What holds of summaries, by the definitions alone.
use Rattle.std.specs.Prelude.{◌≡◌, ℕ, List, [], length, if◌then◌else◌}
use Rattle.std.specs.List.{sum_by}
use Rattle.lt_world.specs.Trace.{Act, Entry, Wrote, own, link_bound}
use Rattle.script_net.specs.Arrivals.{has_arrived}
use Rattle.script_net.specs.Plays.{Plays}
use Rattle.script_gen.specs.Generated.{generated}
use Rattle.script_gen.specs.Totals.{arrived_below, bytes_below}

-- how many bytes were taken by a write
abbrev pub taken_by : Act → ℕ
taken_by (Wrote offered bytes) = length bytes
taken_by act = 0

-- the bytes of all clients are those that the writes of the trace took, but for those to gateways
abbrev pub BytesAreOfAllWrites : Type 0
BytesAreOfAllWrites = (trace : List Entry) → bytes_below (link_bound trace) trace ≡ sum_by (λ entry. if has_arrived (own entry.link trace) then taken_by entry.act else 0) trace

-- so many clients arrive as a generated script is for, where it is played to its end
abbrev pub EveryClientArrives : Type 0
EveryClientArrives = (clients : ℕ) (trace : List Entry) → Plays (generated clients).steps trace [] → arrived_below (link_bound trace) trace ≡ clients
