use Rattle.std.proofs.Common.{arith}
use Rattle.http_head.proofs.GrammarLemmas.{lines_of_head}
use Rattle.http_head.proofs.head.parsed.Goals as goal

pub returns-in-Err-clause-none : goal.returns-in-Err-clause-none
returns-in-Err-clause-none c = λ room h rest r. c.in-Err.ensures.found h rest r (omega (arith, lines_of_head c.args.head.now h rest r, room))
