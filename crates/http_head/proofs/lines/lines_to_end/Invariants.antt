use Rattle.std.proofs.Common.{◌≡◌, ◌≤◌, ◌+◌, drop}
use Rattle.http_head.specs.Lines.{lines_to_end}
use Rattle.http_head.proofs.lines.lines_to_end.Given as goal

abbrev pub invariant-loop-i : goal.invariant-loop-i
invariant-loop-i l = record { total : lines_to_end l.bytes ≡ l.count + lines_to_end (drop l.i l.bytes); few : l.count ≤ l.i }
