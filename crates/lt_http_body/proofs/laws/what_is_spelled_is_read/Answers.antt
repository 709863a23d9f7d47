use Rattle.lt_http_body.proofs.Answered.{spelled_answer, spelled_data, spelled_rest}
use Rattle.lt_http_body.proofs.laws.what_is_spelled_is_read.Goals as goal

pub returns : goal.returns
returns c = record { answer = spelled_answer; «data» = spelled_data; rest = spelled_rest }
