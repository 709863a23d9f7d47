use Rattle.conf_eval.proofs.FirstCall.{missing_root, failed_root}
use Rattle.conf_eval.proofs.laws.a_missing_text_was_asked_for.Goals as goal

pub returns-clause-missing : goal.returns-clause-missing
returns-clause-missing c = missing_root

pub returns-clause-failed : goal.returns-clause-failed
returns-clause-failed c = failed_root
