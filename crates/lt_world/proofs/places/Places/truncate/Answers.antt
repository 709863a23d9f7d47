use Rattle.std.proofs.Common.{take, ◌∙◌, ap}
use Rattle.lt_world.specs.PlaceView.{placed_by}
use Rattle.lt_world.proofs.Placing.{placed-take}
use Rattle.lt_world.proofs.places.Places.truncate.Goals as goal

pub returns : goal.returns
returns c = ap placed_by c.truncate.ensures.items ∙ placed-take c.args.len c.self.inside.places.items ∙ ap (take c.args.len) c.self.view_is
