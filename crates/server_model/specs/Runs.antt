-- A whole run: turns one after another.
use Rattle.std.specs.Prelude.{ℕ, List}
use Rattle.lt_world.specs.Trace.{Entry}
use Rattle.server_model.specs.Site.{Site}
use Rattle.server_model.specs.Turns.{Seen, IsTurn}

-- what net and files tell at one time
pub record Told : Type 0 where
  pub seen : Seen
  pub trace : List Entry

-- what the trace gained is a list of events, each followed by what is due for it, by how many buffers were spare
pub data IsRun (site : Site) : Told → Told → Type 0 where
  none : {told : Told} → IsRun site told told
  more : {before now after : Told} {spare : ℕ} → IsRun site before now → IsTurn site spare now.seen after.seen now.trace after.trace → IsRun site before after
