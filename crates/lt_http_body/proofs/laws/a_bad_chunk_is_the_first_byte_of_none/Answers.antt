use Rattle.lt_http_body.proofs.Answered.{bad_none, bad_some}
use Rattle.lt_http_body.proofs.laws.a_bad_chunk_is_the_first_byte_of_none.Goals as goal

pub returns : goal.returns
returns c = record { none = bad_none; some = bad_some }
