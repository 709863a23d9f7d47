use Rattle.lt_world.proofs.TextLaws.{calm}
use Rattle.lt_world.proofs.laws.unplanned_texts_never_fail.Goals as goal

pub returns : goal.returns
returns c = record { calm = calm }
