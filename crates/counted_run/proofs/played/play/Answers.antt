use Rattle.std.proofs.Common.{[]}
use Rattle.lt_world.specs.Disk.{Missing}
use Rattle.counted_run.proofs.played.play.Goals as goal

-- a new server keeps no client, over whatever net and files
pub counted_to_the_end-counts-requires-clause-table : goal.counted_to_the_end-counts-requires-clause-table
counted_to_the_end-counts-requires-clause-table g c = c.in_ok-server.ensures.table _

pub counted_to_the_end-counts-requires-clause-backs : goal.counted_to_the_end-counts-requires-clause-backs
counted_to_the_end-counts-requires-clause-backs g c t = c.in_ok-server.ensures.backs (record { tree = λ path. Missing; table = _; calls = [] })
