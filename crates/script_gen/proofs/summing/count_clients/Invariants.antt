use Rattle.std.proofs.Common.{◌≡◌, ◌≤◌}
use Rattle.script_gen.specs.Totals.{arrived_below}
use Rattle.script_gen.proofs.summing.count_clients.Given as goal

abbrev pub invariant-loop-link : goal.invariant-loop-link
invariant-loop-link l = record {
  clients : l.clients ≡ arrived_below l.link l.net.game.trace;
  few : l.clients ≤ l.link;
}
