use Rattle.std.proofs.Common.{◌≡◌, ◌≤◌, length, take, drop}
use Rattle.files_disk.proofs.ranges.fill.Given as goal

-- the front that is filled has the bytes from `start` on
abbrev pub invariant-loop : goal.invariant-loop
invariant-loop g l = record {
  within : l.filled ≤ length l.buf;
  front : g.F.ReadAt.tells → take l.filled l.buf ≡ take l.filled (drop l.start (g.F.ReadAt.bytes l.file));
}
