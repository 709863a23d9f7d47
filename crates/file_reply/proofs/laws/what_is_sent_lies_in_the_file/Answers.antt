use Rattle.file_reply.proofs.Parts.{answer_within}
use Rattle.file_reply.proofs.laws.what_is_sent_lies_in_the_file.Goals as goal

pub returns : goal.returns
returns c = answer_within
