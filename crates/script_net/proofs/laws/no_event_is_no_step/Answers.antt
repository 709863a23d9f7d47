use Rattle.script_net.proofs.Runs.{none_left}
use Rattle.script_net.proofs.laws.no_event_is_no_step.Goals as goal

pub returns : goal.returns
returns c = none_left
