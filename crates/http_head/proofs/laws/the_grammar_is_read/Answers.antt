use Rattle.http_head.proofs.ReadLemmas.{read_complete, read_sound}
use Rattle.http_head.proofs.laws.the_grammar_is_read.Goals as goal

pub returns : goal.returns
returns c = record { sound = read_sound; found = read_complete }
