use Rattle.lt_http_body.proofs.Answered.{large_none, large_line, large_some}
use Rattle.lt_http_body.proofs.laws.a_body_too_large_has_none_within_the_limit.Goals as goal

pub returns : goal.returns
returns c = record { none = large_none; line = large_line; some = large_some }
