use Rattle.lt_world.proofs.FileLaws.{calm}
use Rattle.lt_world.proofs.laws.unplanned_files_never_fail.Goals as goal

pub returns : goal.returns
returns c = record { calm = calm }
