use Rattle.std.proofs.Common.{length, ◌∙◌, ap}
use Rattle.cond_cache.specs.Kept.{asked}
use Rattle.cond_cache.proofs.Places.{none_asked}
use Rattle.cond_cache.proofs.conds.RequestConds.empty.Goals as goal

pub returns-clause-none : goal.returns-clause-none
returns-clause-none c = ap asked c.empty.ensures ∙ none_asked 0 (length c.self.inside.places)
