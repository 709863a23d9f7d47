use Rattle.std.proofs.Common.{◌≡◌}
use Rattle.script_gen.specs.Draws.{drawn}
use Rattle.script_gen.specs.Generated.{clients_below}
use Rattle.script_gen.proofs.generating.arrivals.Given as goal

abbrev pub invariant-loop-number : goal.invariant-loop-number
invariant-loop-number l = record {
  steps : l.steps ≡ clients_below l.clients l.number;
  draw : l.draw ≡ drawn l.clients l.number;
}
