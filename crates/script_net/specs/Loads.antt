-- What the files of a script make of a tree (README.md of this crate, 'How a script is played').
use Rattle.std.specs.Prelude.{◌≡◌, ℕ, true, ◌<◌, List, [], ◌∷◌, length, get_or}
use Rattle.lt_world.specs.Disk.{Tree}
use Rattle.lt_world.specs.declared.files.FileCall.TheVariants as filed
use Rattle.lt_world.specs.FileRuns.{planned}
use Rattle.lt_world.specs.Memory.{Stored, with_file_at, with_directory_at, is_path}
use Rattle.lt_script.specs.declared.script.ScriptFile.{ScriptFile}
use Rattle.lt_script.specs.declared.script.ScriptFile.TheVariants as file
use Rattle.lt_script.specs.declared.script.ScriptFault.{ScriptFault}
use Rattle.lt_script.specs.declared.script.FaultCall.{FaultCall}
use Rattle.lt_script.specs.declared.script.FaultCall.TheVariants as call
use Rattle.script_net.specs.Letters.{letters}

-- where a file is placed
abbrev pub path_of : ScriptFile → List ℕ
path_of (file.Bytes path time bytes) = path
path_of (file.Fill path time size) = path
path_of (file.Dir path) = path

-- the tree with one more file
abbrev pub with_file : ScriptFile → Tree → Tree
with_file (file.Bytes path time bytes) tree = with_file_at path time bytes tree
with_file (file.Fill path time size) tree = with_file_at path time (letters size) tree
with_file (file.Dir path) tree = with_directory_at path tree

-- the tree with these files, one after another
abbrev pub planted : List ScriptFile → Tree → Tree
planted [] tree = tree
planted (file ∷ files) tree = planted files (with_file file tree)

-- the files with one more call that is to fail, where it is one of theirs
abbrev pub with_fault : FaultCall → ℕ → Stored → Stored
with_fault call.Find nth files = planned filed.Find nth files
with_fault call.Open nth files = planned filed.Open nth files
with_fault call.File nth files = planned filed.Read nth files
with_fault other nth files = files

-- the files with these faults, one after another
abbrev pub faulted : List ScriptFault → Stored → Stored
faulted [] files = files
faulted (fault ∷ faults) files = faulted faults (with_fault fault.call fault.nth files)

-- each file has a path that begins with a slash and doesn't end with one
abbrev pub AreRooted : List ScriptFile → Type 0
AreRooted files = (k : ℕ) (other : ScriptFile) → k < length files → is_path (path_of (get_or files k other)) ≡ true
