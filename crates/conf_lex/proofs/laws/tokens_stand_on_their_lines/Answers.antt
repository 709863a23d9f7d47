use Rattle.conf_lex.proofs.Places.{tokens_stand}
use Rattle.conf_lex.proofs.laws.tokens_stand_on_their_lines.Goals as goal

pub returns : goal.returns
returns c = tokens_stand
