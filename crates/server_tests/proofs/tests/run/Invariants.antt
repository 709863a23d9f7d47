use Rattle.server_model.specs.Files.{IsTable, Backs}
use Rattle.server_tests.proofs.tests.run.Given as goal

abbrev pub invariant-loop : goal.invariant-loop
invariant-loop g l = IsTable (g.N.Net.links l.net) l.server.table × (g.F.Files.tells → Backs (g.F.Files.disk l.files).table l.server.table)
