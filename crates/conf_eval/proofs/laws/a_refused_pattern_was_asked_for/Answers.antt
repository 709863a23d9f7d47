use Rattle.conf_eval.proofs.Answered.{all_answered, ends_in_refusal}
use Rattle.conf_eval.proofs.laws.a_refused_pattern_was_asked_for.Goals as goal

pub returns-clause-refused : goal.returns-clause-refused
returns-clause-refused c = ends_in_refusal

pub returns-clause-loaded : goal.returns-clause-loaded
returns-clause-loaded c = all_answered
