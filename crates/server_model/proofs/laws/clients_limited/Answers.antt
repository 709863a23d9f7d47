use Rattle.server_model.proofs.Limited.{run_within}
use Rattle.server_model.proofs.laws.clients_limited.Goals as goal

pub returns : goal.returns
returns c = record { within = run_within }
