use Rattle.fcgi_records.proofs.ReadingLemmas.{after_append, stdout_append, taken_append}
use Rattle.fcgi_records.proofs.laws.cuts_change_nothing.Goals as goal

pub returns : goal.returns
returns c = record { stands = after_append; stdout = stdout_append; taken = taken_append }
