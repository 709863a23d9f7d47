use Rattle.std.proofs.Common.{◌≡◌, ◌≤◌, vec_len, vec_capacity}
use Rattle.script_net.specs.Letters.{letters}
use Rattle.script_net.proofs.letters.letters.Given as goal

abbrev pub invariant-loop-i : goal.invariant-loop-i
invariant-loop-i l = record {
  items : l.bytes.items ≡ letters l.i;
  len : vec_len l.bytes ≡ l.i;
  room : l.size ≤ vec_capacity l.bytes;
}
