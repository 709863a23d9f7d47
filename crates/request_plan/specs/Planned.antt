-- What the code plans for a request.
use Rattle.std.specs.Prelude.{◌≡◌, ℕ, ◌+◌, ◌<◌, ◌^◌, List, None, false, Option, Result, Ok, Err}
use Rattle.http_reply.specs.FieldLines.{FieldLines}
use Rattle.lt_bytes.specs.declared.memory.NoMemory.{NoMemory}
use Rattle.lt_world.specs.Disk.{Disk, IsOpenAt}
use Rattle.server_model.specs.World.{Arrival}
use Rattle.server_model.specs.Settings.{Settings}
use Rattle.server_model.specs.Site.{Site}
use Rattle.server_model.specs.Request.{Head}
use Rattle.server_model.specs.Plan.{is_head}
use Rattle.server_model.specs.Planning.{CallsFor, PlansError, PlansFile, PlansUnsent}
use Rattle.request_plan.specs.declared.chosen.Content.{Content}
use Rattle.request_plan.specs.declared.chosen.Content.TheVariants.{Phrase, File, Unsent}
use Rattle.request_plan.specs.declared.chosen.Chosen.{Chosen}
use Rattle.request_plan.specs.Lent.{lent}

-- this is the first plan of request k of a client that came so, and these are its calls on the files
abbrev pub PlansContent : Content → Settings → ℕ → FieldLines → Site → Option Arrival → ℕ → ℕ → Head → Disk → Disk → Type 0
PlansContent Phrase settings status fields site arrival client k head before after = PlansError settings status fields site arrival client k head before after
PlansContent (File file start len) settings status fields site arrival client k head before after = PlansFile file.0 start len settings status fields site arrival client k head before after
PlansContent (Unsent len) settings status fields site arrival client k head before after = PlansUnsent len settings status fields site arrival client k head before after

abbrev pub PlansChosen : Chosen → Site → Option Arrival → ℕ → ℕ → Head → Disk → Disk → Type 0
PlansChosen chosen site arrival client k head before after =
    PlansContent chosen.content (lent chosen.settings) chosen.status chosen.fields site arrival client k head before after

-- where memory is wanted, no more calls were made than its plan names, and no file is open
abbrev pub PlansBy : Result Chosen NoMemory → Site → Option Arrival → ℕ → ℕ → Head → Disk → Disk → Type 0
PlansBy (Ok chosen) site arrival client k head before after = PlansChosen chosen site arrival client k head before after
PlansBy (Err e) site arrival client k head before after = CallsFor site arrival client k head None before after

-- a file that is planned is open
abbrev pub PlansOpen : Content → Disk → Type 0
PlansOpen (File file start len) disk = IsOpenAt file.0 disk
PlansOpen other disk = Unit {0}

-- one byte or more of a file is planned, which has fewer than 2^62
abbrev pub PlansWithin : Content → Type 0
PlansWithin (File file start len) = (0 < len) × (start + len < 2 ^ 62)
PlansWithin other = Unit {0}

-- a file is planned only where its bytes are sent
abbrev pub SendsTo : List ℕ → Content → Type 0
SendsTo method (File file start len) = is_head method ≡ false
SendsTo method other = Unit {0}
