use Rattle.proxy_message.proofs.ReadingLemmas.{framed_after, framed_content}
use Rattle.proxy_message.proofs.laws.a_framed_body_is_read_by_its_definition.Goals as goal

pub returns : goal.returns
returns c = record { stands = framed_after; content = framed_content }
