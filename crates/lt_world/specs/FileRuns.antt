-- What each call of files in memory makes of them, and what they may become.
use Rattle.std.specs.Prelude.{◌≡◌, ◌≤◌, ℕ, List, [], ◌∷◌, ◌++◌, Option, Some, Bool, true, false, Result, Ok, Err, length, take, drop}
use Rattle.std.proofs.Common.{le_refl, le_trans}
use Rattle.lt_world.specs.declared.files.FileCall.{FileCall}
use Rattle.lt_world.specs.declared.files.FileCall.TheVariants as call
use Rattle.lt_world.specs.declared.net.Owner.{Owner}
use Rattle.lt_world.specs.declared.files.Found.{Found}
use Rattle.lt_world.specs.declared.files.Found.TheVariants as found
use Rattle.lt_world.specs.declared.files.Opened.{Opened}
use Rattle.lt_world.specs.declared.files.Opened.TheVariants as opening
use Rattle.lt_world.specs.declared.fault.Fault.{Fault}
use Rattle.lt_world.specs.Disk.{Node, File}
use Rattle.lt_world.specs.Memory.{Stored, tree_of, table_by}
use Rattle.lt_world.specs.Plans.{is_due, next, counted, fails_at}
use Rattle.lt_world.specs.Slots.{closes_slot}

-- the bytes of a file, and none of anything else
abbrev pub file_bytes : Node → List ℕ
file_bytes (File bytes time) = bytes
file_bytes node = []

-- the files after a find
abbrev pub after_find : Found → Owner → Stored → Stored
after_find found.NoMemory owner s = s
after_find found.Failed owner s = record s { calls = record { kind = call.Find; owner = owner; failed = true } ∷ s.calls; find_plan = counted s.find_plan; faults = next s.faults }
after_find answer owner s = record s { calls = record { kind = call.Find; owner = owner; failed = false } ∷ s.calls; find_plan = counted s.find_plan }

-- the files after an open
abbrev pub after_open : Opened → Owner → List ℕ → Stored → Stored
after_open opening.NoMemory owner path s = s
after_open opening.Failed owner path s = record s { calls = record { kind = call.Open; owner = owner; failed = true } ∷ s.calls; open_plan = counted s.open_plan; faults = next s.faults }
after_open (opening.File file size time) owner path s = record s { calls = record { kind = call.Open; owner = owner; failed = false } ∷ s.calls; open_plan = counted s.open_plan; opened = s.opened ++ Some (file_bytes (tree_of s path)) ∷ [] }

-- the files after a read
abbrev pub after_read : Result (Unit {0}) Fault → Owner → Stored → Stored
after_read (Ok done) owner s = record s { read_plan = counted s.read_plan }
after_read (Err fault) owner s = record s { read_plan = counted s.read_plan; faults = next s.faults; failed_read = Some owner }

-- the files after a file was given back
abbrev pub after_release : ℕ → Stored → Stored
after_release file s = record s { opened = closes_slot file s.opened }

-- a call fails exactly where its plan says so
abbrev pub FindPlanned : Found → Bool → Type 0
FindPlanned found.Failed due = due ≡ true
FindPlanned found.NoMemory due = Unit {0}
FindPlanned answer due = due ≡ false

-- the same of an open
abbrev pub OpenPlanned : Opened → Bool → Type 0
OpenPlanned opening.Failed due = due ≡ true
OpenPlanned opening.NoMemory due = Unit {0}
OpenPlanned (opening.File file size time) due = due ≡ false

-- the same of a read
abbrev pub ReadPlanned : Result (Unit {0}) Fault → Bool → Type 0
ReadPlanned (Ok done) due = due ≡ false
ReadPlanned (Err fault) due = due ≡ true

-- the opened file is that of the path, under the next number
abbrev pub OpensAt : Opened → Node → ℕ → Type 0
OpensAt (opening.File file size time) node number = (bytes : List ℕ) × (node ≡ File bytes time) × (length bytes ≡ size) × (file.0 ≡ number)
OpensAt answer node number = Unit {0}

-- the buffer has the bytes of the opened file from here on
abbrev pub ReadsAt : ℕ → ℕ → List (Option (List ℕ)) → List ℕ → Type 0
ReadsAt file start opened buf = (bytes : List ℕ) → table_by opened file ≡ Some bytes → buf ≡ take (length buf) (drop start bytes)

-- the call of this kind with this number is to fail
abbrev pub planned : FileCall → ℕ → Stored → Stored
planned call.Find nth s = record s { find_plan = fails_at nth s.find_plan }
planned call.Open nth s = record s { open_plan = fails_at nth s.open_plan }
planned call.Read nth s = record s { read_plan = fails_at nth s.read_plan }

-- the calls that lead from some files to others
pub data Leads : Stored → Stored → Type 0 where
  same : {a : Stored} → Leads a a
  finds : {a b : Stored} → Leads a b → (answer : Found) (owner : Owner) → FindPlanned answer (is_due b.find_plan) → Leads a (after_find answer owner b)
  opens : {a b : Stored} → Leads a b → (answer : Opened) (owner : Owner) (path : List ℕ) → OpenPlanned answer (is_due b.open_plan) → Leads a (after_open answer owner path b)
  reads : {a b : Stored} → Leads a b → (answer : Result (Unit {0}) Fault) (owner : Owner) → ReadPlanned answer (is_due b.read_plan) → Leads a (after_read answer owner b)
  releases : {a b : Stored} → Leads a b → (file : ℕ) → Leads a (after_release file b)

-- calls after calls are calls
pub Leads-more : (a b c : Stored) → Leads a b → Leads b c → Leads a c
Leads-more a b c ab same = ab
Leads-more a b c ab (finds bc answer owner planned) = finds (Leads-more _ _ _ ab bc) answer owner planned
Leads-more a b c ab (opens bc answer owner path planned) = opens (Leads-more _ _ _ ab bc) answer owner path planned
Leads-more a b c ab (reads bc answer owner planned) = reads (Leads-more _ _ _ ab bc) answer owner planned
Leads-more a b c ab (releases bc file) = releases (Leads-more _ _ _ ab bc) file

-- what files in memory may become: some calls lead there, and their count of failures never falls
pub record FilesLater (a b : Stored) : Type 0 where
  pub leads : Leads a b
  pub faults : a.faults ≤ b.faults

-- files are later than themselves
pub FilesLater-same : (a : Stored) → FilesLater a a
FilesLater-same a = record { leads = same; faults = le_refl a.faults }

-- what is later than something later is later
pub FilesLater-more : (a b c : Stored) → FilesLater a b → FilesLater b c → FilesLater a c
FilesLater-more a b c ab bc = record { leads = Leads-more a b c ab.leads bc.leads; faults = le_trans ab.faults bc.faults }

-- the law that the trait asks for
pub FilesLater-faults : (a b : Stored) → FilesLater a b → a.faults ≤ b.faults
FilesLater-faults a b later = later.faults

-- no call is to fail
pub record IsUnplanned (s : Stored) : Type 0 where
  pub finds : s.find_plan.fails ≡ []
  pub opens : s.open_plan.fails ≡ []
  pub reads : s.read_plan.fails ≡ []
