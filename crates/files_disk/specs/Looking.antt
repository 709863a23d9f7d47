-- What the metadata of a path say of it (POSIX, "stat": the type of a file and its size).
use Rattle.std.specs.Prelude.{◌≡◌, ℕ, ◌<◌, ◌≤◌, ◌^◌, ◌⊎◌, List, true, false}
use Rattle.std.specs.Fs.{metadata_len, file_type, IsDir, IsFile}
use Rattle.std.specs.declared.fs.attrs.Metadata.{Metadata}
use Rattle.lt_world.specs.declared.files.Found.{Found}
use Rattle.lt_world.specs.declared.files.Found.TheVariants as found
use Rattle.lt_world.specs.Disk.{ends_in_slash}

-- a directory; a regular file below the limit of sizes, at a path without a final slash; a failure above that limit;
-- and nothing where anything else stands
abbrev pub IsSeen : Found → Metadata → List ℕ → Type 0
IsSeen found.Directory m path = IsDir (file_type m)
IsSeen (found.File size time) m path = IsFile (file_type m) × (ends_in_slash path ≡ false) × (size ≡ metadata_len m) × (size < 2 ^ 62)
IsSeen found.Missing m path = (¬ IsDir (file_type m)) × ((¬ IsFile (file_type m)) ⊎ (ends_in_slash path ≡ true))
IsSeen found.Failed m path = IsFile (file_type m) × (2 ^ 62 ≤ metadata_len m)
IsSeen found.NoMemory m path = ⊥
