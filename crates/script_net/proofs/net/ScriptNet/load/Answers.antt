use Rattle.script_net.proofs.Loading.{spelled_rooted}
use Rattle.script_net.proofs.net.ScriptNet.load.Goals as goal

pub plant-requires : goal.plant-requires
plant-requires c = rw c.as_slice.ensures (spelled_rooted c.requires.spelled.0 c.args.script.now c.requires.spelled.1)
