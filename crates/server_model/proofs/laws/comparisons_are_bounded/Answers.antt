use Rattle.server_model.proofs.Bounded.{comparisons_within, between_within}
use Rattle.server_model.proofs.laws.comparisons_are_bounded.Goals as goal

pub returns-clause-within : goal.returns-clause-within
returns-clause-within c = comparisons_within

pub returns-clause-between : goal.returns-clause-between
returns-clause-between c = between_within
