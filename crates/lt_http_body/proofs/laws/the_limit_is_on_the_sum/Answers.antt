use Rattle.lt_http_body.proofs.Answered.{within_sum, sum_within}
use Rattle.lt_http_body.proofs.laws.the_limit_is_on_the_sum.Goals as goal

pub returns : goal.returns
returns c = λ most chunks. (within_sum most chunks, sum_within most chunks)
