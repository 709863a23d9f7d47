use Rattle.std.proofs.Common.{◌≡◌, drop}
use Rattle.conf_lex.specs.Lines.{line_of}
use Rattle.conf_lex.specs.Tokens.{line_behind}
use Rattle.conf_lex.proofs.lexer.line_at_end.Given as goal

abbrev pub invariant-loop-byte : goal.invariant-loop-byte
invariant-loop-byte l = line_behind l.line (drop l.byte-index l.bytes) ≡ line_of l.bytes
