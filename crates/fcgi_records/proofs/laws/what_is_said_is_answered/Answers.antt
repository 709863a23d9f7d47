use Rattle.fcgi_records.proofs.Said.{said_answer}
use Rattle.fcgi_records.proofs.laws.what_is_said_is_answered.Goals as goal

pub returns : goal.returns
returns c = said_answer
