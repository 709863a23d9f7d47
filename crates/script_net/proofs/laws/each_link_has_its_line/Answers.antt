use Rattle.script_net.proofs.Pieces.{has_its_line}
use Rattle.script_net.proofs.laws.each_link_has_its_line.Goals as goal

pub returns : goal.returns
returns c = has_its_line
