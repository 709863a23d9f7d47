use Rattle.std.proofs.Common.{◌≡◌, ◌+◌, ◌≤◌, length}
use Rattle.lt_script.specs.Texts.{lines_of}
use Rattle.lt_script.specs.Scripts.{script_from, joined}
use Rattle.lt_script.proofs.parse.read_lines.Given as goal

abbrev pub invariant-loop-line : goal.invariant-loop-line
invariant-loop-line l = record {
  reads : joined l.script (script_from l.number (lines_of l.rest).0 (lines_of l.rest).1) ≡ script_from 2 (lines_of l.bytes).0 (lines_of l.bytes).1;
  number : l.number + length l.rest ≤ 2 + length l.bytes;
}

abbrev pub decreases-loop-line : goal.decreases-loop-line
decreases-loop-line l = length l.rest
