use Rattle.script_net.proofs.Runs.{plays_later}
use Rattle.script_net.proofs.laws.what_is_later_is_played.Goals as goal

pub returns : goal.returns
returns c = plays_later
