use Rattle.std.proofs.Common.{ap}
use Rattle.server_model.specs.World.{side_of, world_at}
use Rattle.server_model.proofs.Sides.{side_stays, came_side}
use Rattle.server_model.proofs.laws.worlds_stay.Goals as goal

pub returns-clause-came : goal.returns-clause-came
returns-clause-came c site disk client peer local deeds came = came_side peer local deeds came

pub returns-clause-acts : goal.returns-clause-acts
returns-clause-acts c site disk client act deeds isnt = ap (world_at site disk client) (side_stays act (side_of deeds) isnt)
