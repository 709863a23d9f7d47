use Rattle.conf_parse.proofs.Public.{one_file}
use Rattle.conf_parse.proofs.laws.one_tree.Goals as goal

pub returns : goal.returns
returns c = one_file
