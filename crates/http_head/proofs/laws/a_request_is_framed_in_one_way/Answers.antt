use Rattle.http_head.proofs.FramingLemmas.{framed_once}
use Rattle.http_head.proofs.laws.a_request_is_framed_in_one_way.Goals as goal

pub returns : goal.returns
returns c = framed_once
