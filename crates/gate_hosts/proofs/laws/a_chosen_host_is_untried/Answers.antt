use Rattle.gate_hosts.proofs.Chosen.{chosen_untried}
use Rattle.gate_hosts.proofs.laws.a_chosen_host_is_untried.Goals as goal

pub returns : goal.returns
returns c = chosen_untried
