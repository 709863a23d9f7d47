use Rattle.conf_eval.proofs.Determined.{one_outcome, same_or_unread, same_or_unanswered}
use Rattle.conf_eval.proofs.laws.a_load_has_one_outcome.Goals as goal

pub returns-clause-same : goal.returns-clause-same
returns-clause-same c = one_outcome

pub returns-clause-failed : goal.returns-clause-failed
returns-clause-failed c = same_or_unread

pub returns-clause-refused : goal.returns-clause-refused
returns-clause-refused c = same_or_unanswered
