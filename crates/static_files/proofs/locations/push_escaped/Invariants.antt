use Rattle.std.proofs.Common.{◌≡◌, ◌++◌, take}
use Rattle.static_files.specs.Locations.{escaped}
use Rattle.static_files.proofs.locations.push_escaped.Given as goal

abbrev pub invariant-loop-byte : goal.invariant-loop-byte
invariant-loop-byte l = l.text ≡ l.initial.text ++ escaped (take l.byte-index l.path)
