-- What files hold and what was asked of them (src/files.rt, the trait `Files`).
use Rattle.std.specs.Prelude.{◌≡◌, ℕ, ◌+◌, ◌≤◌, List, [], ◌∷◌, length, take, drop, Option, Some, None, unwrap_or, Bool, true, false, ◌&&◌, ◌==◌, if◌then◌else◌}
use Rattle.lt_world.specs.declared.files.FileCall.{FileCall}
use Rattle.lt_world.specs.declared.files.FileCall.TheVariants as call
use Rattle.lt_world.specs.declared.net.Owner.{Owner}
use Rattle.lt_world.specs.declared.files.Call.{Call}

-- what stands at a path
pub data Node : Type 0 where
  Missing : Node
  Directory : Node
  -- its bytes, and the time of its last change in seconds
  File : List ℕ → ℕ → Node

-- what stands at each path
abbrev pub Tree : Type 0
Tree = List ℕ → Node

-- a file stands at the path
abbrev pub IsFileAt : List ℕ → Tree → Type 0
IsFileAt path tree = (bytes : List ℕ) × (time : ℕ) × (tree path ≡ File bytes time)

-- the path ends in `/`, so it names a directory or nothing
abbrev pub ends_in_slash : List ℕ → Bool
ends_in_slash [] = false
ends_in_slash (byte ∷ []) = byte == 47
ends_in_slash (byte ∷ next ∷ path) = ends_in_slash (next ∷ path)

-- the bytes under each opened file
abbrev pub Table : Type 0
Table = ℕ → Option (List ℕ)

-- the table with a file opened under this number
abbrev pub with_file : ℕ → List ℕ → Table → Table
with_file file bytes table other = if other == file then Some bytes else table other

-- the table without the file of this number
abbrev pub without_file : ℕ → Table → Table
without_file file table other = if other == file then None else table other

-- what files tell: the tree, the opened files, and what was asked
pub record Disk : Type 0 where
  pub tree : Tree
  pub table : Table
  -- the calls of `find` and `open`, the newest first
  pub calls : List Call

-- the pieces of opened files that were asked for
pub record Reads : Type 0 where
  -- how many, up to 2^64 - 1
  pub made : ℕ
  -- for whom the last of those that failed was
  pub failed : Option Owner

-- after a call of this kind for this owner
abbrev pub asked : FileCall → Owner → Bool → Disk → Disk
asked what owner failed disk = record { tree = disk.tree; table = disk.table; calls = record { kind = what; owner = owner; failed = failed } ∷ disk.calls }

-- after a file was opened under this number
abbrev pub opened : ℕ → List ℕ → Disk → Disk
opened file bytes disk = record { tree = disk.tree; table = with_file file bytes disk.table; calls = disk.calls }

-- after the file of this number was given back
abbrev pub released : ℕ → Disk → Disk
released file disk = record { tree = disk.tree; table = without_file file disk.table; calls = disk.calls }

-- the file is open
abbrev pub IsOpenAt : ℕ → Disk → Type 0
IsOpenAt file disk = (bytes : List ℕ) × (disk.table file ≡ Some bytes)

-- the file is open and has this range
abbrev pub HasRange : Disk → ℕ → ℕ → ℕ → Type 0
HasRange disk file start len = (bytes : List ℕ) × (disk.table file ≡ Some bytes) × (start + len ≤ length bytes)

-- so many bytes of an opened file from here on
abbrev pub range_of : Disk → ℕ → ℕ → ℕ → List ℕ
range_of disk file start len = take len (drop start (unwrap_or (disk.table file) []))

-- the same kind of call
abbrev pub is_kind : FileCall → FileCall → Bool
is_kind call.Find call.Find = true
is_kind call.Open call.Open = true
is_kind call.Read call.Read = true
is_kind a b = false

-- the same request of the same client
abbrev pub is_owner : Owner → Owner → Bool
is_owner a b = a.conn == b.conn && a.request == b.request

-- how many calls of this kind were made for this owner
abbrev pub count : FileCall → Owner → List Call → ℕ
count what owner [] = 0
count what owner (c ∷ calls) = if is_kind c.kind what && is_owner c.owner owner then count what owner calls + 1 else count what owner calls

-- a call that failed: whose it was, its kind, and how many calls of this kind were made for this owner before it
pub record Logged : Type 0 where
  pub owner : Owner
  pub kind : FileCall
  pub nth : ℕ

-- the log of the calls that failed, the newest first
abbrev pub log_of : List Call → List Logged
log_of [] = []
log_of (c ∷ calls) = if c.failed then record { owner = c.owner; kind = c.kind; nth = count c.kind c.owner calls } ∷ log_of calls else log_of calls

-- a logged call is this one
abbrev pub is_entry : FileCall → Owner → ℕ → Logged → Bool
is_entry what owner nth logged = is_kind logged.kind what && is_owner logged.owner owner && logged.nth == nth

-- the call of this kind with this number for this owner failed
abbrev pub is_logged : FileCall → Owner → ℕ → List Logged → Bool
is_logged what owner nth [] = false
is_logged what owner nth (logged ∷ log) = if is_entry what owner nth logged then true else is_logged what owner nth log

-- the calls for the requests of one client
abbrev pub own_calls : ℕ → List Call → List Call
own_calls client [] = []
own_calls client (c ∷ calls) = if c.owner.conn == client then c ∷ own_calls client calls else own_calls client calls
