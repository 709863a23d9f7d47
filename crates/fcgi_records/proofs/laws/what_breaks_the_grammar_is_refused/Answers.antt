use Rattle.fcgi_records.proofs.Said.{spelled_refused}
use Rattle.fcgi_records.proofs.laws.what_breaks_the_grammar_is_refused.Goals as goal

pub returns : goal.returns
returns c = spelled_refused
