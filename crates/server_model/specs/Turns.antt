-- One turn: an event, and what is done for each client that it concerns.
use Rattle.std.specs.Prelude.{◌≡◌, ◌≤◌, ℕ, ◌+◌, ◌-◌, List, [], ◌∷◌, ◌++◌, false, Option, Some, None}
use Rattle.lt_world.specs.declared.files.Call.{Call}
use Rattle.lt_world.specs.declared.net.Ending.{Ending}
use Rattle.lt_world.specs.declared.net.Ending.TheVariants as ending
use Rattle.lt_world.specs.declared.net.Owner.{Owner}
use Rattle.lt_world.specs.Causes.{Rose}
use Rattle.lt_world.specs.Disk.{Disk, Table, Reads}
use Rattle.lt_world.specs.Trace.{Act, Entry, Accepted, Close, names}
use Rattle.server_model.specs.Site.{Site}
use Rattle.server_model.specs.World.{World, world_of}
use Rattle.server_model.specs.Deeds.{Deed, Ours, own, ours, told, AreDeeds}
use Rattle.server_model.specs.Open.{open_clients}
use Rattle.server_model.specs.Client.{IsFinished, IsRight}
use Rattle.server_model.specs.Held.{Held, Serving}
use Rattle.server_model.specs.Files.{file_of, FitsFor, FileStep}
use Rattle.server_model.specs.Serves.{StandsFor, Serves}
use Rattle.server_model.specs.Due.{Due}

-- what files tell at one time
pub record Seen : Type 0 where
  pub disk : Disk
  pub faults : ℕ
  pub reads : Reads

-- one read failed for this request of a client: the count rose, and this was the owner
pub record ReadFailed (client number : ℕ) (before after : Seen) : Type 0 where
  pub rose : Rose before.faults after.faults
  pub owner : Owner
  pub is : after.reads.failed ≡ Some owner
  pub conn : owner.conn ≡ client
  pub request : owner.request ≡ number
  pub once : after.reads.made ≤ before.reads.made + 1

-- no piece of an opened file was read
abbrev pub ReadsNone : Seen → Seen → Type 0
ReadsNone before after = after.reads ≡ before.reads

-- at most one piece was read, and no read failed: the owner of the last one that did is as before
pub record ReadsOne (before after : Seen) : Type 0 where
  pub failed : after.reads.failed ≡ before.reads.failed
  pub once : after.reads.made ≤ before.reads.made + 1

-- what is done for one client
pub record Part : Type 0 where
  pub client : ℕ
  pub deeds : List Deed

-- these parts, on top of a trace
abbrev pub all_told : List Part → List Entry → List Entry
all_told [] trace = trace
all_told (p ∷ parts) trace = told p.client p.deeds (all_told parts trace)

-- what is due for the client of a link, while so many buffers are spare
abbrev pub DueFor : Site → Act → ℕ → ℕ → Seen → Seen → List Entry → List Entry → Type 0
DueFor site event client spare before after old now = Due (open_clients old) event spare (ReadsNone before after) (ReadsOne before after) (λ k. ReadFailed client k before after) (world_of site before.disk client (own client old)) (world_of site after.disk client (own client now)) (own client old) (own client now)

-- what is due for a client by its deeds, however many clients are open
abbrev pub DueOn : Act → ℕ → Seen → Seen → ℕ → World → World → List Deed → List Deed → Type 0
DueOn event spare before after client was is past now = (open_now : ℕ) → Due open_now event spare (ReadsNone before after) (ReadsOne before after) (λ k. ReadFailed client k before after) was is past now

-- an event of a link concerns its client alone
abbrev pub DueParts : Site → Act → ℕ → List Part → ℕ → Seen → Seen → List Entry → List Entry → Type 0
DueParts site event link [] spare before after old now = ⊥
DueParts site event link (p ∷ []) spare before after old now = (p.client ≡ link) × AreDeeds p.deeds × DueFor site event p.client spare before after old now
DueParts site event link (p ∷ q ∷ parts) spare before after old now = ⊥

-- no call on the files is forgotten, and the tree stays
pub record Grows (before after : Seen) : Type 0 where
  pub tree : after.disk.tree ≡ before.disk.tree
  pub log : (more : List Call) × (more ++ before.disk.calls ≡ after.disk.calls)
  pub faults : before.faults ≤ after.faults

-- a trace gains an event of a link, and what is due for it, while so many buffers are spare
pub record IsTurn (site : Site) (spare : ℕ) (before after : Seen) (old now : List Entry) : Type 0 where
  pub link : ℕ
  pub event : Act
  pub parts : List Part
  pub gains : now ≡ all_told parts (record { link = link; act = event } ∷ old)
  pub due : DueParts site event link parts spare before after old now
  pub grows : Grows before after

-- how many clients are open, where so many were with this one, and this is kept of it now
abbrev pub open_with : Option Held → ℕ → ℕ
open_with None n = n - 1
open_with (Some held) n = n

-- one client that is kept, in a state that `From` names, goes on by some deeds, as is due, whatever its past
pub record StepsBy (From : Table → World → Held → List Act → Type 0) (due : World → World → List Deed → List Deed → Type 0) (site : Site) (held : Held) (next : Option Held) (net files : Type 0) (before after : Disk) (old now : List Entry) : Type 0 where
  pub deeds : List Deed
  pub are : AreDeeds deeds
  pub gains : net → now ≡ told held.link deeds old
  pub count : (trace : List Entry) → open_clients (told held.link deeds trace) ≡ open_with next (open_clients trace)
  pub does : files → FileStep held.link held.file (file_of next) before after
  pub fits : files → FitsFor after.table next
  pub keeps : files → (past : List Deed) → From before.table (world_of site before held.link past) held (ours past)
      → StandsFor after.table (world_of site after held.link (deeds ++ past)) next (deeds ++ past) × due (world_of site before held.link past) (world_of site after held.link (deeds ++ past)) past (deeds ++ past)

-- the same up to where it is to be closed so, and what is kept by then
pub record StopsBy (From : Table → World → Held → List Act → Type 0) (due : World → World → List Deed → List Deed → Type 0) (site : Site) (held now_held : Held) (e : Ending) (net files : Type 0) (before after : Disk) (old now : List Entry) : Type 0 where
  pub deeds : List Deed
  pub are : AreDeeds deeds
  pub gains : net → now ≡ told held.link deeds old
  pub count : (trace : List Entry) → open_clients (told held.link deeds trace) ≡ open_clients trace
  pub link : now_held.link ≡ held.link
  pub does : files → FileStep held.link held.file now_held.file before after
  pub keeps : files → (past : List Deed) → From before.table (world_of site before held.link past) held (ours past)
      → IsRight (world_of site after held.link (deeds ++ past)) (ours (deeds ++ past)) × (e ≡ ending.Clean → IsFinished (world_of site after held.link (deeds ++ past)) (ours (deeds ++ past)))
      × due (world_of site before held.link past) (world_of site after held.link (deeds ++ past)) past (Ours (Close e) ∷ deeds ++ past)

-- it stays open, or is to be closed
abbrev pub GoesBy : (Table → World → Held → List Act → Type 0) → (World → World → List Deed → List Deed → Type 0) → Site → Held → Held → Option Ending → Type 0 → Type 0 → Disk → Disk → List Entry → List Entry → Type 0
GoesBy From due site held new None net files before after old now = StepsBy From due site held (Some new) net files before after old now
GoesBy From due site held new (Some e) net files before after old now = StopsBy From due site held new e net files before after old now

-- a link that arrives was never named
abbrev pub IsNew : Act → ℕ → List Entry → Type 0
IsNew (Accepted peer local) link trace = names link trace ≡ false
IsNew event link trace = Unit {0}

-- the server goes on after an event of a link, as which so many buffers were spare
abbrev pub TurnsOn : Act → ℕ → Serving → Serving → Type 0 → Type 0 → ℕ → Seen → Seen → List Entry → List Entry → Type 0
TurnsOn event link server next net files spare before after old now = net → files → (trace : List Entry) → old ≡ record { link = link; act = event } ∷ trace → IsNew event link trace
    → Serves before.disk server trace → Serves after.disk next now × IsTurn server.site spare before after trace now
