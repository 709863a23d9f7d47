use Rattle.lt_world.proofs.Disks.{quiet}
use Rattle.lt_world.proofs.laws.what_is_not_counted_is_not_logged.Goals as goal

pub returns : goal.returns
returns c = record { quiet = quiet }
