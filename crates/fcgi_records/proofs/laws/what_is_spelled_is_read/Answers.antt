use Rattle.fcgi_records.proofs.Said.{spelled_read}
use Rattle.fcgi_records.proofs.laws.what_is_spelled_is_read.Goals as goal

pub returns : goal.returns
returns c = spelled_read
