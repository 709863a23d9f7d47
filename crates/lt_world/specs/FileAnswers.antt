-- What each answer of files means (src/files.rt, the trait `Files`).
use Rattle.std.specs.Prelude.{◌≡◌, ℕ, ◌<◌, ◌^◌, List, length, Some, None, true, false, Result, Ok, Err}
use Rattle.lt_world.specs.declared.files.FileCall.TheVariants as call
use Rattle.lt_world.specs.declared.net.Owner.{Owner}
use Rattle.lt_world.specs.declared.files.Found.{Found}
use Rattle.lt_world.specs.declared.files.Found.TheVariants as found
use Rattle.lt_world.specs.declared.files.Opened.{Opened}
use Rattle.lt_world.specs.declared.files.Opened.TheVariants as opens
use Rattle.lt_world.specs.declared.fault.Fault.{Fault}
use Rattle.lt_world.specs.Causes.{Rose}
use Rattle.lt_world.specs.Disk.{Node, Missing, Directory, File, Disk, Reads, ends_in_slash, asked, opened}
use Rattle.lt_world.specs.Plans.{next}

-- a call that answers for want of memory isn't counted
abbrev pub found_disk : Found → Owner → Disk → Disk
found_disk found.NoMemory owner disk = disk
found_disk found.Failed owner disk = asked call.Find owner true disk
found_disk answer owner disk = asked call.Find owner false disk

-- the answer is what the tree has
abbrev pub FoundRight : Found → Node → Type 0
FoundRight (found.File size time) node = (bytes : List ℕ) × (node ≡ File bytes time) × (length bytes ≡ size)
FoundRight found.Directory node = node ≡ Directory
FoundRight found.Missing node = node ≡ Missing
FoundRight answer node = Unit {0}

-- a file has fewer than 2^62 bytes, and its path has no final slash
abbrev pub FoundWithin : Found → List ℕ → Type 0
FoundWithin (found.File size time) path = (size < 2 ^ 62) × (ends_in_slash path ≡ false)
FoundWithin answer path = Unit {0}

-- a find fails only where the count rose
abbrev pub FoundCause : Found → ℕ → ℕ → Type 0
FoundCause found.Failed before now = Rose before now
FoundCause answer before now = Unit {0}

-- a file that wasn't open gets the bytes of the path
pub record OpensFile (file size time : ℕ) (owner : Owner) (path : List ℕ) (before after : Disk) : Type 0 where
  pub bytes : List ℕ
  pub is_there : before.tree path ≡ File bytes time
  pub has_size : length bytes ≡ size
  pub fresh : before.table file ≡ None
  pub after_is : after ≡ opened file bytes (asked call.Open owner false before)

-- what each answer of `open` says of the disk before and after it
abbrev pub Opens : Opened → Owner → List ℕ → Disk → Disk → Type 0
Opens (opens.File file size time) owner path before after = OpensFile file.0 size time owner path before after
Opens opens.Failed owner path before after = after ≡ asked call.Open owner true before
Opens opens.NoMemory owner path before after = after ≡ before

-- an opened file has fewer than 2^62 bytes, and its path has no final slash
abbrev pub OpenedWithin : Opened → List ℕ → Type 0
OpenedWithin (opens.File file size time) path = (size < 2 ^ 62) × (ends_in_slash path ≡ false)
OpenedWithin answer path = Unit {0}

-- an open fails only where the count rose
abbrev pub OpenedCause : Opened → ℕ → ℕ → Type 0
OpenedCause opens.Failed before now = Rose before now
OpenedCause answer before now = Unit {0}

-- a piece was asked for, and it failed or not
abbrev pub read_once : Result (Unit {0}) Fault → Owner → Reads → Reads
read_once (Ok done) owner reads = record { made = next reads.made; failed = reads.failed }
read_once (Err fault) owner reads = record { made = next reads.made; failed = Some owner }
