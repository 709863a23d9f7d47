use Rattle.fcgi_records.proofs.Said.{read_spelled}
use Rattle.fcgi_records.proofs.laws.what_is_read_is_spelled.Goals as goal

pub returns : goal.returns
returns c = read_spelled
