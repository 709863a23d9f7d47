use Rattle.lt_http_body.proofs.Answered.{read_spelled}
use Rattle.lt_http_body.proofs.laws.what_is_read_is_spelled.Goals as goal

pub returns : goal.returns
returns c = read_spelled
