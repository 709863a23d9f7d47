use Rattle.std.proofs.Common.{◌≡◌, ◌+◌, drop}
use Rattle.server_core.specs.Table.{held_count}
use Rattle.server_core.proofs.server.queued.Given as goal

abbrev pub invariant-loop-client : goal.invariant-loop-client
invariant-loop-client l = l.count + held_count (drop l.client-index l.clients) ≡ held_count l.clients
