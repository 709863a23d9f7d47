use Rattle.cond_cache.proofs.Asked.{no_block_twice}
use Rattle.cond_cache.proofs.laws.no_block_is_asked_twice.Goals as goal

pub returns : goal.returns
returns c = no_block_twice
