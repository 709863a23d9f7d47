use Rattle.cond_cache.proofs.Documented.{documented}
use Rattle.cond_cache.proofs.laws.truths_are_as_documented.Goals as goal

pub returns : goal.returns
returns c config a n block form is = documented a config form n block is
