use Rattle.server_model.specs.Files.{IsTable, Backs}
use Rattle.counted_run.proofs.played.counted.Given as goal

-- what each turn asks for
abbrev pub invariant-loop-turn : goal.invariant-loop-turn
invariant-loop-turn g l = record {
  table : IsTable (g.N.Net.links l.net) l.server.table;
  backs : g.F.Files.tells → Backs (g.F.Files.disk l.files).table l.server.table;
}
