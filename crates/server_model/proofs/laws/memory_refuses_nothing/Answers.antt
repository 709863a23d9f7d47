use Rattle.server_model.proofs.Refusals.{no_head, no_body}
use Rattle.server_model.proofs.laws.memory_refuses_nothing.Goals as goal

pub returns : goal.returns
returns c = record { head = no_head; body = no_body }
