use Rattle.http_head.proofs.StableLemmas.{values_are}
use Rattle.http_head.proofs.laws.the_map_has_the_values.Goals as goal

pub returns : goal.returns
returns c = values_are
