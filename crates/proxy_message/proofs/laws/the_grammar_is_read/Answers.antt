use Rattle.proxy_message.proofs.ResponseLemmas.{response_sound, response_found}
use Rattle.proxy_message.proofs.laws.the_grammar_is_read.Goals as goal

pub returns : goal.returns
returns c = record { sound = response_sound; found = response_found }
