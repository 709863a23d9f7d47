use Rattle.fcgi_records.proofs.Said.{written_read}
use Rattle.fcgi_records.proofs.laws.what_is_written_is_read.Goals as goal

pub returns : goal.returns
returns c = written_read
