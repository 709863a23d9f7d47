use Rattle.script_gen.proofs.Arriving.{all_arrive}
use Rattle.script_gen.proofs.laws.every_client_arrives.Goals as goal

pub returns : goal.returns
returns c = all_arrive
