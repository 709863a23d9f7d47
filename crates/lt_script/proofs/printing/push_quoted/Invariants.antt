use Rattle.std.proofs.Common.{◌≡◌, ◌++◌, take}
use Rattle.lt_bytes.specs.Quoting.{quoted}
use Rattle.lt_script.proofs.printing.push_quoted.Given as goal

abbrev pub invariant-loop-byte : goal.invariant-loop-byte
invariant-loop-byte l = l.text ≡ l.initial.text ++ quoted (take l.byte-index l.bytes)
