-- Where a path leads: below the document root, and for a directory by its index names
-- (lighttpd's `server.document-root` and `index-file.names`).
use Rattle.std.specs.Prelude.{◌≡◌, ℕ, ◌+◌, Bool, true, false, List, [], ◌∷◌, ◌++◌, Result, Ok, Err, if◌then◌else◌}
use Rattle.lt_bytes.specs.declared.memory.NoMemory.{NoMemory}
use Rattle.lt_bytes.specs.Memory.{no_memory}
use Rattle.lt_world.specs.declared.files.FileCall.TheVariants as call
use Rattle.lt_world.specs.declared.net.Owner.{Owner}
use Rattle.lt_world.specs.Causes.{Rose}
use Rattle.lt_world.specs.Disk.{Node, File, Tree, Disk, asked, log_of, is_logged}
use Rattle.static_files.specs.declared.places.Place.{Place}
use Rattle.static_files.specs.declared.places.Place.TheVariants as place
use Rattle.static_files.specs.declared.places.Tried.{Tried}
use Rattle.static_files.specs.declared.places.Tried.TheVariants as tried

abbrev pub is_file : Node → Bool
is_file (File bytes time) = true
is_file node = false

-- The first index name with a file: `fails` says of the find with each number whether it failed, and the first name's
-- has number n.
abbrev pub index_place : (ℕ → Bool) → Tree → ℕ → List ℕ → List ℕ → List (List ℕ) → Place
index_place fails tree n path physical [] = place.Status 403
index_place fails tree n path physical (name ∷ names) =
    if fails n then place.Status 500
    else (if is_file (tree (physical ++ name)) then place.File (path ++ name) (physical ++ name)
    else index_place fails tree (n + 1) path physical names)

-- The calls by which index names are tried, one find for each in their order up to the first that fails or is a file,
-- with what they come to, from one disk to another. Memory may be wanting before a find, or behind it for the answer.
pub data Tries (owner : Owner) (path physical : List ℕ) : List (List ℕ) → Disk → Result Place NoMemory → Disk → Type 0 where
  none : (disk : Disk) → Tries owner path physical [] disk (Ok (place.Status 403)) disk
  found : (name : List ℕ) (names : List (List ℕ)) (disk : Disk) → is_file (disk.tree (physical ++ name)) ≡ true
      → Tries owner path physical (name ∷ names) disk (Ok (place.File (path ++ name) (physical ++ name))) (asked call.Find owner false disk)
  failed : (name : List ℕ) (names : List (List ℕ)) (disk : Disk)
      → Tries owner path physical (name ∷ names) disk (Ok (place.Status 500)) (asked call.Find owner true disk)
  next : (name : List ℕ) (names : List (List ℕ)) (disk : Disk) (result : Result Place NoMemory) (after : Disk) → is_file (disk.tree (physical ++ name)) ≡ false
      → Tries owner path physical names (asked call.Find owner false disk) result after → Tries owner path physical (name ∷ names) disk result after
  no_memory_before : (names : List (List ℕ)) (disk : Disk) → Tries owner path physical names disk (Err no_memory) disk
  no_memory_behind : (name : List ℕ) (names : List (List ℕ)) (disk : Disk) → is_file (disk.tree (physical ++ name)) ≡ true
      → Tries owner path physical (name ∷ names) disk (Err no_memory) (asked call.Find owner false disk)

-- what one find told, from the disk before it to the disk after it
abbrev pub TriedTo : Tried → Owner → List ℕ → Disk → Disk → Type 0
TriedTo tried.File owner physical before after = (is_file (before.tree physical) ≡ true) × (after ≡ asked call.Find owner false before)
TriedTo tried.Other owner physical before after = (is_file (before.tree physical) ≡ false) × (after ≡ asked call.Find owner false before)
TriedTo tried.Failed owner physical before after = after ≡ asked call.Find owner true before
TriedTo tried.NoMemory owner physical before after = after ≡ before

-- a find fails only where the count of faults rose
abbrev pub FailedBy : Tried → ℕ → ℕ → Type 0
FailedBy tried.Failed before now = Rose before now
FailedBy answer before now = Unit {0}

-- 500 is answered only where the count of faults rose
abbrev pub Failed500 : Result Place NoMemory → ℕ → ℕ → Type 0
Failed500 result before now = result ≡ Ok (place.Status 500) → Rose before now

-- the find with this number for the owner is in the log of those that failed
abbrev pub has_failed : Owner → Disk → ℕ → Bool
has_failed owner disk n = is_logged call.Find owner n (log_of disk.calls)

-- the place that is answered is that of the definition
abbrev pub IsPlaceBy : Result Place NoMemory → (ℕ → Bool) → Tree → ℕ → List ℕ → List ℕ → List (List ℕ) → Type 0
IsPlaceBy (Ok p) fails tree n path physical names = p ≡ index_place fails tree n path physical names
IsPlaceBy (Err e) fails tree n path physical names = Unit {0}
