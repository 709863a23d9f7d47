use Rattle.lt_http_body.proofs.Answered.{more_none, more_some}
use Rattle.lt_http_body.proofs.laws.more_is_needed_where_a_body_goes_on.Goals as goal

pub returns : goal.returns
returns c = record { none = more_none; some = more_some }
