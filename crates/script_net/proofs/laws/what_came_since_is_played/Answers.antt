use Rattle.script_net.proofs.Waits.{since_plays}
use Rattle.script_net.proofs.laws.what_came_since_is_played.Goals as goal

pub returns : goal.returns
returns c = since_plays
