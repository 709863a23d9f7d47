use Rattle.std.proofs.Common.{◌≡◌, ◌≤◌, [], length}
use Rattle.buffer_pool.specs.Kept.{Kept}
use Rattle.chunkqueue.specs.Store.{unused}
use Rattle.server_model.specs.Files.{Backs}
use Rattle.server_core.specs.Table.{helds, numbers_of, Rising, all_freed}
use Rattle.server_core.proofs.server.give_back.Given as goal

abbrev pub invariant-loop-client : goal.invariant-loop-client
invariant-loop-client g l = record {
  each : Kept unused [] l.store (numbers_of l.clients.items);
  made : l.initial.store.made ≤ l.store.made;
  rising : Rising (helds l.clients.items);
  backs : g.F.Files.tells → Backs (g.F.Files.disk l.files).table (helds l.clients.items);
  disk : g.F.Files.tells → all_freed (helds l.clients.items) (g.F.Files.disk l.files) ≡ all_freed (helds l.initial.clients.items) (g.F.Files.disk l.initial.files);
  reads : g.F.Files.reads l.files ≡ g.F.Files.reads l.initial.files;
  later : g.F.Files.later l.initial.files l.files;
}

abbrev pub decreases-loop-client : goal.decreases-loop-client
decreases-loop-client g l = length l.clients.items
