-- What follows an act of a client, as far as the files and what is kept go: its request is answered, and it rests or is to be closed.
use Rattle.std.specs.Prelude.{◌≡◌, List, Bool, true, Option, Some, None}
use Rattle.lt_world.specs.declared.net.Ending.{Ending}
use Rattle.lt_world.specs.declared.net.Ending.TheVariants as ending
use Rattle.lt_world.specs.Disk.{Disk}
use Rattle.server_model.specs.Deeds.{Deed, ours}
use Rattle.server_model.specs.Site.{Site}
use Rattle.lt_world.specs.Trace.{Act}
use Rattle.server_model.specs.World.{World, world_of}
use Rattle.server_model.specs.Client.{IsFinished, IsRight}
use Rattle.server_model.specs.Due.{MayYield}
use Rattle.server_model.specs.Held.{Held}
use Rattle.server_model.specs.Files.{Fits, FileStep}
use Rattle.server_model.specs.Serves.{Matches, Stands}

-- nothing is left to do
pub record SettlesOn (site : Site) (held new : Held) (files : Type 0) (before after : Disk) : Type 0 where
  pub link : new.link ≡ held.link
  pub does : files → FileStep held.link held.file new.file before after
  pub fits : files → Fits after.table new
  pub keeps : files → (past : List Deed) → Matches before.table (world_of site before held.link past) held (ours past) → Stands after.table (world_of site after held.link past) new (ours past)

-- so it may be closed, where memory may be wanted or not
abbrev pub MayEnd : Bool → Ending → Type 0
MayEnd may ending.Clean = Unit {0}
MayEnd may ending.NoMemory = may ≡ true
MayEnd may e = ⊥

-- what it got is right, all of it at a clean end, and a clean end isn't missed for want of memory
abbrev pub EndsAs : Ending → World → List Act → Type 0
EndsAs e world acts = IsRight world acts × (e ≡ ending.Clean → IsFinished world acts) × (e ≡ ending.NoMemory → MayYield world acts)

pub record SettlesOut (may : Bool) (site : Site) (held new : Held) (e : Ending) (files : Type 0) (before after : Disk) : Type 0 where
  pub allowed : MayEnd may e
  pub link : new.link ≡ held.link
  pub does : files → FileStep held.link held.file new.file before after
  pub keeps : files → (past : List Deed) → Matches before.table (world_of site before held.link past) held (ours past) → EndsAs e (world_of site after held.link past) (ours past)

abbrev pub SettlesTo : Bool → Site → Held → Held → Option Ending → Type 0 → Disk → Disk → Type 0
SettlesTo may site held new None files before after = SettlesOn site held new files before after
SettlesTo may site held new (Some e) files before after = SettlesOut may site held new e files before after
