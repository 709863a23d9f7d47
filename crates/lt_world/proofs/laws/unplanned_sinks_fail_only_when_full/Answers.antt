use Rattle.lt_world.proofs.SinkLaws.{calm}
use Rattle.lt_world.proofs.laws.unplanned_sinks_fail_only_when_full.Goals as goal

pub returns : goal.returns
returns c = record { calm = calm }
