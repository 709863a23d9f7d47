use Rattle.settings.proofs.Found.{winner_is}
use Rattle.settings.proofs.laws.the_last_true_block_counts.Goals as goal

pub returns : goal.returns
returns c = winner_is
