-- What is left of a range of an opened file.
use Rattle.std.specs.Prelude.{ℕ, ◌+◌, ◌-◌, List, [], ◌∷◌, drop, min}
use Rattle.lt_world.specs.Disk.{Disk, range_of}
use Rattle.buffer_pool.specs.declared.buffer.TheConstants.{BUFFER_SIZE}

-- the file, the position and the number of bytes, and the first bytes that are staged
pub record Ranged : Type 0 where
  pub file : ℕ
  pub start : ℕ
  pub len : ℕ
  pub staged : List ℕ

abbrev pub without_front : ℕ → Ranged → Ranged
without_front n r = record { file = r.file; start = r.start + n; len = r.len - n; staged = drop n r.staged }

-- its first n bytes, and the rest of it: nothing of them is staged
abbrev pub front_of_range : ℕ → Ranged → Ranged
front_of_range n r = record { file = r.file; start = r.start; len = n; staged = [] }

abbrev pub rest_of_range : ℕ → Ranged → Ranged
rest_of_range n r = record { file = r.file; start = r.start + n; len = r.len - n; staged = [] }

abbrev pub unstaged : Ranged → Ranged
unstaged r = record { file = r.file; start = r.start; len = r.len; staged = [] }

abbrev pub bytes_staged : Disk → ℕ → ℕ → ℕ → List ℕ → List ℕ
bytes_staged disk file start len [] = range_of disk file start (min len BUFFER_SIZE)
bytes_staged disk file start len (byte ∷ staged) = byte ∷ staged

-- what is staged of it, once it is staged
abbrev pub staged_from : Disk → Ranged → List ℕ
staged_from disk r = bytes_staged disk r.file r.start r.len r.staged
