-- How many new targets a request gets that is planned in a step for its client.
use Rattle.std.specs.Prelude.{◌≡◌, ℕ, ◌+◌, ◌≤◌, List, ◌++◌, Option, Some}
use Rattle.lt_world.specs.declared.net.Ending.{Ending}
use Rattle.lt_world.specs.Disk.{Disk}
use Rattle.lt_world.specs.Trace.{Entry}
use Rattle.server_model.specs.Comparing.{comparisons, passes_between}
use Rattle.server_model.specs.Deeds.{Deed, ours, told, AreDeeds}
use Rattle.server_model.specs.Held.{Stage, Awaiting, Heading, Taking, Asking, Answering, Held, arrival_of}
use Rattle.server_model.specs.Request.{Head, Request, Unfinished, Refused, Open, Declined, Complete}
use Rattle.server_model.specs.Rewrites.{rewriting}
use Rattle.server_model.specs.Serves.{Stands}
use Rattle.server_model.specs.Settings.{settings_at}
use Rattle.server_model.specs.Site.{Site}
use Rattle.server_model.specs.Steps.{advanced, accepted}
use Rattle.server_model.specs.World.{Arrival, world_of}
use Rattle.server_core.specs.Compared.{wants}

-- new targets of the request that is there
abbrev pub passes_for : Site → Option Arrival → Request → ℕ
passes_for site arrival Unfinished = 0
passes_for site arrival (Refused status) = 0
passes_for site arrival (Open head) = 0
passes_for site arrival (Declined status head) = 0
passes_for site arrival (Complete head content) = (rewriting site.blocks arrival head).passes

abbrev pub passes_at : Site → Option Arrival → Stage → ℕ
passes_at site arrival (Awaiting k) = 0
passes_at site arrival (Heading k head) = 0
passes_at site arrival (Taking k head s content) = 0
passes_at site arrival (Asking k r) = passes_for site arrival r
passes_at site arrival (Answering k last) = 0

-- the body of a request whose head was read is taken up as far as it came
abbrev pub taken_on_at : Stage → Site → Held → Held
taken_on_at (Heading k head) site held = advanced (accepted held (settings_at site (Some (arrival_of held)) (Some head)).body_limit)
taken_on_at stage site held = held

abbrev pub taken_on : Site → Held → Held
taken_on site held = taken_on_at held.stage site held

-- of the request that is there once that is done
abbrev pub passes_on : Site → Held → ℕ
passes_on site held = passes_at site (Some (arrival_of held)) (taken_on site held).stage

-- and once what came is taken up
abbrev pub passes_after : Site → Held → ℕ
passes_after site held = passes_on site (advanced held)

-- what is compared in a step for one client, whatever its past: no more than its request takes that is planned in it
pub record ComparesBy (site : Site) (held : Held) (result : Option Ending) (net files : Type 0) (disk : Disk) (old now : List Entry) (before after : ℕ) : Type 0 where
  pub deeds : List Deed
  pub are : AreDeeds deeds
  pub gains : net → now ≡ told held.link deeds old
  pub within : files → (past : List Deed) → Stands disk.table (world_of site disk held.link past) held (ours past)
      → after ≤ before + comparisons site (passes_between (world_of site disk held.link past) (ours past) (world_of site disk held.link (deeds ++ past)) (ours (deeds ++ past))) + wants result
