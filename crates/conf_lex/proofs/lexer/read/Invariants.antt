use Rattle.std.proofs.Common.{◌≡◌, drop}
use Rattle.conf_lex.specs.Machine as spec
use Rattle.conf_lex.specs.declared.held.Held.TheVariants.{Nothing}
use Rattle.conf_lex.proofs.lexer.read.Given as goal

-- The tokens so far stand before what is left to read.
abbrev pub invariant-loop-byte : goal.invariant-loop-byte
invariant-loop-byte l = spec.behind l.tokens (spec.run (drop l.byte-index l.bytes) l.line l.held) ≡ spec.run l.bytes 1 Nothing
