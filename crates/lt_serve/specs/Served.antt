-- What a run means for each client, over a net and files that tell.
use Rattle.std.specs.Prelude.{◌≡◌, ◌≤◌, ℕ, List, [], Some}
use Rattle.lt_world.specs.Acts.{ending_of}
use Rattle.lt_world.specs.declared.files.Call.{Call}
use Rattle.lt_world.specs.declared.net.Ending.{Ending}
use Rattle.lt_world.specs.Causes.{Rose}
use Rattle.lt_world.specs.Disk.{Tree, own_calls}
use Rattle.lt_world.specs.Trace.{Entry}
use Rattle.server_model.specs.Site.{Site}
use Rattle.server_model.specs.World.{side_of}
use Rattle.server_model.specs.Deeds.{own, ours}
use Rattle.server_model.specs.Client.{IsServedRight}
use Rattle.server_model.specs.Turns.{Seen}
use Rattle.server_model.specs.Runs.{Told, IsRun}
use Rattle.server_model.specs.Causes.{IsCause}

-- what net and files tell at one time
abbrev pub told_at : Seen → List Entry → Told
told_at seen trace = record { seen = seen; trace = trace }

-- each client took a prefix of the stream that the site, the tree, its own deeds and the calls on files for it alone
-- determine, and all of it where it was closed clean
abbrev pub ServesRight : Site → Tree → List Call → List Entry → Type 0
ServesRight site tree calls trace = (link : ℕ) → IsServedRight (record { client = link; site = site; side = side_of (own link trace); tree = tree; calls = own_calls link calls }) (own link trace)

-- what the files tell after files were given back: nothing more was asked of them
pub record IsGivenBack (before after : Seen) : Type 0 where
  pub calls : after.disk.calls ≡ before.disk.calls
  pub reads : after.reads ≡ before.reads
  pub faults : before.faults ≤ after.faults

-- what a run from a fresh server over a fresh net keeps for its clients, from files that told the first up to such that
-- tell the second: each event is followed by what is due for it and by nothing else, and each client is closed for a cause
pub record Served (site : Site) (before after : Seen) (trace : List Entry) : Type 0 where
  pub right : ServesRight site before.disk.tree after.disk.calls trace
  -- what the files told after the last turn
  pub last : Seen
  pub run : IsRun site (told_at before []) (told_at last trace)
  pub given_back : IsGivenBack last after
  pub caused : (link : ℕ) (e : Ending) → ending_of (ours (own link trace)) ≡ Some e → IsCause e (ours (own link trace)) (Rose before.faults after.faults)
