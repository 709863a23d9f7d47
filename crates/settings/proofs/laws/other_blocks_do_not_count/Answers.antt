use Rattle.settings.proofs.Last.{last_agree}
use Rattle.settings.proofs.laws.other_blocks_do_not_count.Goals as goal

pub returns : goal.returns
returns c = last_agree
