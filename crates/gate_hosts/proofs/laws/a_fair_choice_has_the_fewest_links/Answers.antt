use Rattle.gate_hosts.proofs.Chosen.{fair_fewest, fair_first}
use Rattle.gate_hosts.proofs.laws.a_fair_choice_has_the_fewest_links.Goals as goal

pub returns : goal.returns
returns c = record { fewest = fair_fewest; first = fair_first }
