-- How a run finishes, and what it means for each client.
use Rattle.std.specs.Prelude.{◌≡◌, ℕ, ◌<◌, ◌≤◌, List, [], Some}
use Rattle.lt_world.specs.Acts.{ending_of}
use Rattle.lt_world.specs.declared.net.NextKind.{NextKind}
use Rattle.lt_world.specs.declared.net.NextKind.TheVariants as kind
use Rattle.lt_world.specs.declared.net.Ending.{Ending}
use Rattle.lt_world.specs.declared.files.Call.{Call}
use Rattle.lt_world.specs.Disk.{Disk, Reads, Tree, own_calls}
use Rattle.lt_world.specs.Memory.{Stored, no_files, reads_of}
use Rattle.lt_world.specs.Trace.{Entry}
use Rattle.server_model.specs.Site.{Site}
use Rattle.server_model.specs.Client.{IsServedRight}
use Rattle.server_model.specs.World.{side_of}
use Rattle.server_model.specs.Deeds.{own, ours}
use Rattle.server_model.specs.Runs.{Told, IsRun}
use Rattle.server_model.specs.Causes.{IsCause}
use Rattle.lt_commands.specs.declared.run.Finish.{Finish}
use Rattle.lt_commands.specs.declared.run.Finish.TheVariants as finish

-- by the net's last answer
abbrev pub FinishFits : Finish → NextKind → Type 0
FinishFits finish.Over last = last ≡ kind.Over
FinishFits finish.NoMemory last = last ≡ kind.NoMemory

-- what net and files tell at one time
abbrev pub told_as : Disk → ℕ → Reads → List Entry → Told
told_as disk faults reads trace = record { seen = record { disk = disk; faults = faults; reads = reads }; trace = trace }

-- what files were asked for, and how it went
pub record Asked : Type 0 where
  pub calls : List Call
  pub faults : ℕ
  pub reads : Reads

abbrev pub asked_of : Stored → Asked
asked_of files = record { calls = files.calls; faults = files.faults; reads = reads_of files }

-- files that were asked for nothing, whatever is planned
pub record AreFresh (files : Stored) : Type 0 where
  pub unasked : asked_of files ≡ asked_of no_files
  pub unopened : files.opened ≡ []

-- each client took a prefix of the stream that the site, the tree, its own deeds and the calls on files for it alone
-- determine, and all of it where it was closed clean
abbrev pub ServesRight : Site → Tree → List Call → List Entry → Type 0
ServesRight site tree calls trace = (link : ℕ) → IsServedRight (record { client = link; site = site; side = side_of (own link trace); tree = tree; calls = own_calls link calls }) (own link trace)

-- from no event on and from files that were asked for nothing, each event is followed by what is due for it and by nothing else, up to this trace and to files that were asked for this
pub record RunsDue (site : Site) (tree : Tree) (left : Asked) (trace : List Entry) : Type 0 where
  pub first : Told
  pub final : Told
  pub begins : first.trace ≡ []
  pub tree_is : first.seen.disk.tree ≡ tree
  pub uncalled : first.seen.disk.calls ≡ []
  pub unfailed : first.seen.faults ≡ 0
  pub unread : first.seen.reads ≡ (asked_of no_files).reads
  pub run : IsRun site first final
  pub trace_is : final.trace ≡ trace
  pub calls_are : final.seen.disk.calls ≡ left.calls
  pub faults_are : final.seen.faults ≤ left.faults
  pub reads_are : final.seen.reads ≡ left.reads

-- what a run from a fresh server over a fresh net keeps for its clients; each is closed for a cause, and for a file's fault only where a call on the files failed
pub record Served (site : Site) (tree : Tree) (left : Asked) (trace : List Entry) : Type 0 where
  pub right : ServesRight site tree left.calls trace
  pub due : RunsDue site tree left trace
  pub caused : (link : ℕ) (e : Ending) → ending_of (ours (own link trace)) ≡ Some e → IsCause e (ours (own link trace)) (0 < left.faults)
