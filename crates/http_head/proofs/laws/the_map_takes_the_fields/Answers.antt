use Rattle.http_head.proofs.TakenLemmas.{map_takes}
use Rattle.http_head.proofs.laws.the_map_takes_the_fields.Goals as goal

pub returns : goal.returns
returns c = map_takes
