use Rattle.std.proofs.Common.{◌++◌, ◌≡◌, drop}
use Rattle.conf_lex.specs.Spelling as spec
use Rattle.conf_parse.proofs.printer.inside.Given as goal

abbrev pub invariant-loop-byte : goal.invariant-loop-byte
invariant-loop-byte l = l.out ++ spec.inside (drop l.byte-index l.text) ≡ l.initial.out ++ spec.inside l.text
