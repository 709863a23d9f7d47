use Rattle.std.proofs.Common.{◌≡◌, ◌++◌, map, take}
use Rattle.cgi_text.specs.Params.{variable_byte}
use Rattle.cgi_text.proofs.pairs.push_variable_bytes.Given as goal

abbrev pub invariant-loop-byte : goal.invariant-loop-byte
invariant-loop-byte l = l.text ≡ l.initial.text ++ map variable_byte (take l.byte-index l.name)
