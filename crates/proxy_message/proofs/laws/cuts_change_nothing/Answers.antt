use Rattle.proxy_message.proofs.ReadingLemmas.{after_append, content_append, taken_append}
use Rattle.proxy_message.proofs.laws.cuts_change_nothing.Goals as goal

pub returns : goal.returns
returns c = record { stands = after_append; content = content_append; own = taken_append }
