use Rattle.settings.proofs.Last.{within}
use Rattle.settings.proofs.laws.places_stand_in_blocks.Goals as goal

pub returns : goal.returns
returns c = within
