use Rattle.std.proofs.Common.{◌≡◌, drop}
use Rattle.conf_parse.specs.Symbols as spec
use Rattle.conf_parse.proofs.symbol.has_empty_part.Given as goal

abbrev pub invariant-loop-byte : goal.invariant-loop-byte
invariant-loop-byte l = spec.has_empty_part l.begins (drop l.byte-index l.word) ≡ spec.has_empty_part spec.begins l.word
