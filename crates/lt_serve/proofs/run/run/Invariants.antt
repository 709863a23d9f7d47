use Rattle.std.proofs.Common.{◌≡◌}
use Rattle.server_model.specs.Files.{IsTable, Backs}
use Rattle.server_model.specs.Serves.{Serves}
use Rattle.server_model.specs.Runs.{IsRun}
use Rattle.server_core.specs.Steps.{seen_as}
use Rattle.server_core.specs.Within.{serving_at}
use Rattle.lt_serve.specs.Served.{told_at}
use Rattle.lt_serve.proofs.run.run.Given as goal

-- the turns so far are a run, after which the server serves
abbrev pub invariant-loop : goal.invariant-loop
invariant-loop g l = record {
  table : IsTable (g.N.Net.links l.net) l.server.table;
  backs : g.F.Files.tells → Backs (g.F.Files.disk l.files).table l.server.table;
  site : l.server.site ≡ l.fn.server.site;
  serves : g.N.Net.tells → g.F.Files.tells → Serves (g.F.Files.disk l.fn.files) (serving_at l.fn.server) (g.N.Net.trace l.fn.net) → Serves (g.F.Files.disk l.files) (serving_at l.server) (g.N.Net.trace l.net);
  run : g.N.Net.tells → g.F.Files.tells → Serves (g.F.Files.disk l.fn.files) (serving_at l.fn.server) (g.N.Net.trace l.fn.net) → IsRun l.fn.server.site
      (told_at (seen_as (g.F.Files.disk l.fn.files) (g.F.Files.faults l.fn.files) (g.F.Files.reads l.fn.files)) (g.N.Net.trace l.fn.net))
      (told_at (seen_as (g.F.Files.disk l.files) (g.F.Files.faults l.files) (g.F.Files.reads l.files)) (g.N.Net.trace l.net));
  waits : g.N.Net.wait_faults l.net ≡ g.N.Net.wait_faults l.fn.net;
  since : g.N.Waits.since l.fn.net l.net;
  files_later : g.F.Files.later l.fn.files l.files;
}
