use Rattle.script_net.proofs.Calm.{calm_never_fails}
use Rattle.script_net.proofs.laws.no_failing_line_is_no_failure.Goals as goal

pub returns : goal.returns
returns c = calm_never_fails
