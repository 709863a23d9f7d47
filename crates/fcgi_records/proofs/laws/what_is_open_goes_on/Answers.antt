use Rattle.fcgi_records.proofs.Going.{open_goes_on}
use Rattle.fcgi_records.proofs.laws.what_is_open_goes_on.Goals as goal

pub returns : goal.returns
returns c = open_goes_on
