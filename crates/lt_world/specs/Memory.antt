-- What files in memory hold, and what each call makes of it.
use Rattle.std.specs.Prelude.{ℕ, ◌-◌, List, [], ◌∷◌, ◌++◌, Option, None, Bool, false, not, ◌&&◌, if◌then◌else◌, ◌==◌}
use Rattle.std.specs.Str.{bytes_eq}
use Rattle.lt_world.specs.declared.net.Owner.{Owner}
use Rattle.lt_world.specs.declared.files.Call.{Call}
use Rattle.lt_world.specs.Disk.{Node, Missing, Directory, File, Tree, Table, Disk, Reads, ends_in_slash}
use Rattle.lt_world.specs.Plans.{Planned, no_plan}

-- what was placed at a path
pub record Placed : Type 0 where
  pub path : List ℕ
  pub node : Node

-- what files in memory hold
pub record Stored : Type 0 where
  -- in the order in which they were placed: of one path the last counts
  pub places : List Placed
  -- the bytes under each file's number, while it is open
  pub opened : List (Option (List ℕ))
  -- the calls of `find` and `open`, the newest first
  pub calls : List Call
  pub find_plan : Planned
  pub open_plan : Planned
  pub read_plan : Planned
  pub faults : ℕ
  pub failed_read : Option Owner

-- the path without its final slash
abbrev pub without_slash : List ℕ → List ℕ
without_slash [] = []
without_slash (byte ∷ []) = if byte == 47 then [] else byte ∷ []
without_slash (byte ∷ next ∷ path) = byte ∷ without_slash (next ∷ path)

-- what a path with a final slash sees: a directory, or nothing
abbrev pub as_directory : Node → Node
as_directory Directory = Directory
as_directory node = Missing

-- what a path names, where this stands without its final slash: with one only a directory, and nothing at no path
abbrev pub seen_at : List ℕ → Node → Node
seen_at [] node = Missing
seen_at (byte ∷ path) node = if ends_in_slash (byte ∷ path) then as_directory node else node

-- what was placed last at a path, or this where nothing was
abbrev pub last_at : List ℕ → List Placed → Node → Node
last_at path [] node = node
last_at path (placed ∷ places) node = last_at path places (if bytes_eq placed.path path then placed.node else node)

-- what each path names after these were placed
abbrev pub tree_by : List Placed → Tree
tree_by places path = seen_at path (last_at (without_slash path) places Missing)

-- the bytes under each number, counted from the front
abbrev pub table_by : List (Option (List ℕ)) → Table
table_by [] file = None
table_by (slot ∷ slots) file = if file == 0 then slot else table_by slots (file - 1)

-- the tree of files in memory
abbrev pub tree_of : Stored → Tree
tree_of stored = tree_by stored.places

-- what files in memory tell
abbrev pub disk_of : Stored → Disk
disk_of stored = record { tree = tree_by stored.places; table = table_by stored.opened; calls = stored.calls }

-- this node at a path without a final slash
abbrev pub with_node : List ℕ → Node → Tree → Tree
with_node path node tree other = if bytes_eq path (without_slash other) then seen_at other node else tree other

-- the parts of a path before each of its slashes, the first one after `before`
abbrev pub parents : List ℕ → List ℕ → List (List ℕ)
parents before [] = []
parents before (byte ∷ path) = if byte == 47 then before ∷ parents (before ++ byte ∷ []) path else parents (before ++ byte ∷ []) path

-- a directory at each of these paths
abbrev pub with_directories : List (List ℕ) → Tree → Tree
with_directories [] tree = tree
with_directories (path ∷ paths) tree = with_directories paths (with_node path Directory tree)

-- a file at a path, and a directory at each of its parents
abbrev pub with_file_at : List ℕ → ℕ → List ℕ → Tree → Tree
with_file_at path time bytes tree = with_node path (File bytes time) (with_directories (parents [] path) tree)

-- a directory at a path and at each of its parents
abbrev pub with_directory_at : List ℕ → Tree → Tree
with_directory_at path tree = with_node path Directory (with_directories (parents [] path) tree)

-- the path is absolute
abbrev pub begins_with_slash : List ℕ → Bool
begins_with_slash [] = false
begins_with_slash (byte ∷ path) = byte == 47

-- the path begins with a slash and doesn't end with one
abbrev pub is_path : List ℕ → Bool
is_path path = begins_with_slash path && not (ends_in_slash path)

-- no files, no calls, no plans
abbrev pub no_files : Stored
no_files = record { places = []; opened = []; calls = []; find_plan = no_plan; open_plan = no_plan; read_plan = no_plan; faults = 0; failed_read = None }

-- the reads that were asked for
abbrev pub reads_of : Stored → Reads
reads_of s = record { made = s.read_plan.made; failed = s.failed_read }
