use Rattle.std.proofs.Common.{◌≡◌, ◌≤◌, ◌*◌, take}
use Rattle.lt_bytes.specs.Quoting.{quoted}
use Rattle.script_net.proofs.writing.spell.Given as goal

abbrev pub invariant-loop-byte : goal.invariant-loop-byte
invariant-loop-byte l = record {
  few : l.n ≤ 4 * l.byte-index;
  text : take l.n l.buf ≡ quoted (take l.byte-index l.bytes);
}
