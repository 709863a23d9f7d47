use Rattle.proxy_message.proofs.ContentLemmas.{to_end_stands, to_end_content}
use Rattle.proxy_message.proofs.laws.a_body_up_to_the_end_is_all_bytes.Goals as goal

pub returns : goal.returns
returns c = record { stands = to_end_stands; content = to_end_content }
