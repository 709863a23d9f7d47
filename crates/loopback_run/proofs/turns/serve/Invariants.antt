use Rattle.server_model.specs.Files.{IsTable, Backs}
use Rattle.loopback_run.proofs.turns.serve.Given as goal

-- what each turn asks for
abbrev pub invariant-loop : goal.invariant-loop
invariant-loop g l = record {
  table : IsTable (g.N.Net.links l.net) l.server.table;
  backs : g.F.Files.tells → Backs (g.F.Files.disk l.files).table l.server.table;
}
