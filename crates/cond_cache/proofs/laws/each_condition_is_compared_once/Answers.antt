use Rattle.cond_cache.proofs.Asked.{few_asked}
use Rattle.cond_cache.proofs.laws.each_condition_is_compared_once.Goals as goal

pub returns : goal.returns
returns c = few_asked
