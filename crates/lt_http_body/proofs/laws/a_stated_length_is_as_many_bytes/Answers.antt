use Rattle.lt_http_body.proofs.Answered.{stated_whole, stated_part, stated_above}
use Rattle.lt_http_body.proofs.laws.a_stated_length_is_as_many_bytes.Goals as goal

pub returns : goal.returns
returns c = record { whole = stated_whole; part = stated_part; above = stated_above }
