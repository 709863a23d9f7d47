use Rattle.conf_lex.proofs.Public.{tokens_of, only_of, refused_of, computed_of, computed_not}
use Rattle.conf_lex.proofs.lexer.lex.Goals as goal

pub returns-in-Ok-clause-tokens : goal.returns-in-Ok-clause-tokens
returns-in-Ok-clause-tokens c = tokens_of c.args.bytes.now c.read.result c.in-Ok.ensures.cases.1 c.read.ensures.exact

pub returns-in-Ok-clause-only : goal.returns-in-Ok-clause-only
returns-in-Ok-clause-only c ts m u h = only_of c.args.bytes.now c.read.result c.read.ensures.exact ts m h

pub returns-in-Ok-clause-refused : goal.returns-in-Ok-clause-refused
returns-in-Ok-clause-refused c = refused_of c.args.bytes.now c.read.result c.in-Ok.ensures.cases.1 c.read.ensures.exact

pub returns-in-Ok-clause-computed : goal.returns-in-Ok-clause-computed
returns-in-Ok-clause-computed c = computed_of c.args.bytes.now c.read.result c.in-Ok.ensures.cases.1 c.read.ensures.exact

pub returns-in-Err-clause-computed : goal.returns-in-Err-clause-computed
returns-in-Err-clause-computed c = computed_not c.args.bytes.now c.line_at_end.result
    (c.in-Err.ensures.cases.0, (c.valid_up_to.result, rw c.valid_up_to.ensures c.in-Err.ensures.cases.1, c.line_at_end.ensures))
