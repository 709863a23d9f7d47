use Rattle.std.proofs.Common.{length, arith, ap}
use Rattle.lt_world.proofs.Placing.{length-placed}
use Rattle.lt_world.proofs.places.Places.len.Goals as goal

pub returns : goal.returns
returns c = omega (arith, c.len.ensures, c.self.inside.places.ok, length-placed c.self.inside.places.items, ap length c.self.view_is)
