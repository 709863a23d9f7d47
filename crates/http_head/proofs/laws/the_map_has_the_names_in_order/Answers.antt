use Rattle.http_head.proofs.OrderLemmas.{keys_are}
use Rattle.http_head.proofs.laws.the_map_has_the_names_in_order.Goals as goal

pub returns : goal.returns
returns c = keys_are
