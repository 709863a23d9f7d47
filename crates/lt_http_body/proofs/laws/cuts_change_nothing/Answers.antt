use Rattle.lt_http_body.proofs.ReadingLemmas.{after_append, data_append, taken_append}
use Rattle.lt_http_body.proofs.laws.cuts_change_nothing.Goals as goal

pub returns : goal.returns
returns c = record { stands = after_append; «data» = data_append; own = taken_append }
