use Rattle.std.proofs.Common.{◌-◌}
use Rattle.server_core.specs.Table.{helds}
use Rattle.server_core.proofs.Listed.{IsBetween}
use Rattle.server_core.proofs.table.place.Given as goal

abbrev pub invariant-loop-low : goal.invariant-loop-low
invariant-loop-low l = IsBetween (helds l.clients) l.link.0 l.low l.high

abbrev pub decreases-loop-low : goal.decreases-loop-low
decreases-loop-low l = l.high - l.low
