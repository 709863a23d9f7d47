use Rattle.conf_parse.proofs.Reread.{reread}
use Rattle.conf_parse.proofs.laws.printed_is_reread.Goals as goal

pub returns : goal.returns
returns c = reread
