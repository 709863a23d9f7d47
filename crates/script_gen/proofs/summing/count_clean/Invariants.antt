use Rattle.std.proofs.Common.{◌≡◌, ◌≤◌}
use Rattle.script_gen.specs.Totals.{clean_below}
use Rattle.script_gen.proofs.summing.count_clean.Given as goal

abbrev pub invariant-loop-link : goal.invariant-loop-link
invariant-loop-link l = record {
  clean : l.clean ≡ clean_below l.link l.net.game.trace;
  few : l.clean ≤ l.link;
}
