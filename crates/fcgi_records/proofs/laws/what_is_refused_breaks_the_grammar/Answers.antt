use Rattle.fcgi_records.proofs.Said.{refused_spelled}
use Rattle.fcgi_records.proofs.laws.what_is_refused_breaks_the_grammar.Goals as goal

pub returns : goal.returns
returns c = refused_spelled
