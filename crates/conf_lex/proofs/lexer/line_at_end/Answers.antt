use Rattle.conf_lex.proofs.Places.{lines_counted}
use Rattle.conf_lex.proofs.lexer.line_at_end.Goals as goal

pub loop-byte-init : goal.loop-byte-init
loop-byte-init c = lines_counted c.args.bytes.now
