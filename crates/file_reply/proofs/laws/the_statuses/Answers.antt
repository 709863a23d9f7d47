use Rattle.file_reply.proofs.Parts.{answer_status, part_for_get}
use Rattle.file_reply.proofs.laws.the_statuses.Goals as goal

pub returns-clause-four : goal.returns-clause-four
returns-clause-four c = answer_status

pub returns-clause-part : goal.returns-clause-part
returns-clause-part c = part_for_get
