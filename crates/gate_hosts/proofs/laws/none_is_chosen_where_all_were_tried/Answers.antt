use Rattle.gate_hosts.proofs.Chosen.{none_all, all_none}
use Rattle.gate_hosts.proofs.laws.none_is_chosen_where_all_were_tried.Goals as goal

pub returns : goal.returns
returns c = record { all = none_all; none = all_none }
