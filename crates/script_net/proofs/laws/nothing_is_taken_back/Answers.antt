use Rattle.script_net.proofs.Runs.{later_grows}
use Rattle.script_net.proofs.laws.nothing_is_taken_back.Goals as goal

pub returns : goal.returns
returns c = later_grows
