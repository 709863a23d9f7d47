use Rattle.script_net.proofs.Waits.{unplanned_never_fail}
use Rattle.script_net.proofs.laws.an_unplanned_wait_never_fails.Goals as goal

pub returns : goal.returns
returns c = unplanned_never_fail
