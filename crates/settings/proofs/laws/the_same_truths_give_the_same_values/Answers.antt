use Rattle.settings.proofs.Last.{values_agree}
use Rattle.settings.proofs.laws.the_same_truths_give_the_same_values.Goals as goal

pub returns : goal.returns
returns c = values_agree
