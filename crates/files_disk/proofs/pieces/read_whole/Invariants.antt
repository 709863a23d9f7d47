use Rattle.std.proofs.Common.{◌≡◌, ◌-◌, ◌≤◌, ◌++◌, length}
use Rattle.files_disk.proofs.pieces.read_whole.Given as goal

-- what was read so far and what is left are the source's bytes
abbrev pub invariant-loop-text : goal.invariant-loop-text
invariant-loop-text g l = record {
  read : g.S.Source.tells → g.S.Source.bytes l.fn.source ≡ l.text ++ g.S.Source.bytes l.source;
  short : length l.text ≤ l.max;
  faults : g.S.Source.faults l.fn.source ≤ g.S.Source.faults l.source;
}

abbrev pub decreases-loop-text : goal.decreases-loop-text
decreases-loop-text g l = l.max - length l.text
