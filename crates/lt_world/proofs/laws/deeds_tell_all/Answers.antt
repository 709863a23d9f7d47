use Rattle.lt_world.proofs.ActLaws.{tell_all}
use Rattle.lt_world.proofs.laws.deeds_tell_all.Goals as goal

pub returns : goal.returns
returns c = tell_all
