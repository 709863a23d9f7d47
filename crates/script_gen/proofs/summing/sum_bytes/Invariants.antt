use Rattle.std.proofs.Common.{◌≡◌}
use Rattle.script_gen.specs.Totals.{bytes_below, counted}
use Rattle.script_gen.proofs.summing.sum_bytes.Given as goal

abbrev pub invariant-loop-link : goal.invariant-loop-link
invariant-loop-link l = l.bytes ≡ counted (bytes_below l.link l.net.game.trace)
