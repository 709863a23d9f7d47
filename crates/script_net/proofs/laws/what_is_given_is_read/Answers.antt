use Rattle.script_net.proofs.Runs.{given_is_read}
use Rattle.script_net.proofs.laws.what_is_given_is_read.Goals as goal

pub returns : goal.returns
returns c = given_is_read
