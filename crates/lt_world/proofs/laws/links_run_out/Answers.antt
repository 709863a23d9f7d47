use Rattle.std.proofs.Common.{arith}
use Rattle.lt_world.proofs.laws.links_run_out.Goals as goal

pub returns-clause-arrives : goal.returns-clause-arrives
returns-clause-arrives c link peer local before after fits full is = omega (arith, is.0)

pub returns-clause-dialled : goal.returns-clause-dialled
returns-clause-dialled c link before after fits full is = omega (arith, is.0)
