use Rattle.std.proofs.Common.{◌≡◌, ◌++◌, take, flat_map}
use Rattle.proxy_message.specs.Asking.{escaped_byte}
use Rattle.proxy_message.proofs.asking.push_escaped.Given as goal

abbrev pub invariant-loop-byte : goal.invariant-loop-byte
invariant-loop-byte l = l.text ≡ l.initial.text ++ flat_map escaped_byte (take l.byte-index l.target)
