use Rattle.std.proofs.Common.{◌∙◌, ap}
use Rattle.cond_cache.specs.Kept.{asked}
use Rattle.cond_cache.proofs.Places.{none_asked}
use Rattle.cond_cache.proofs.conds.RequestConds.new.Goals as goal

pub returns-clause-none : goal.returns-clause-none
returns-clause-none c = ap asked c.in_ok-places.ensures ∙ none_asked 0 c.len.result
