use Rattle.gate_hosts.proofs.Chosen.{round_next}
use Rattle.gate_hosts.proofs.laws.a_round_goes_on_with_the_next_untried_host.Goals as goal

pub returns : goal.returns
returns c = round_next
