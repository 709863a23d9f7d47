-- What one read of a file may do.
use Rattle.std.specs.Prelude.{◌≡◌, ℕ, ◌≤◌, List, length, Result, OnOk, OnErr}
use Rattle.lt_world.specs.Disk.{Disk, Reads, range_of}
use Rattle.lt_world.specs.FileAnswers.{read_once}
use Rattle.lt_world.specs.Causes.{Rose}
use Rattle.lt_world.specs.declared.fault.Fault.{Fault}
use Rattle.chunkqueue.specs.declared.reading.FilePiece.{FilePiece}

-- the bytes of the piece came, or a fault with the files' count; the files before and after, where they tell
pub record IsRead (piece : FilePiece) (Tells : Type 0) (disk after : Disk) (faults then : ℕ) (reads now : Reads) (result : Result (Unit {0}) Fault) (bytes : List ℕ) : Type 0 where
  pub bytes_are : OnOk result (Tells → bytes ≡ range_of disk piece.file.0 piece.start (length bytes))
  pub still : Tells → after ≡ disk
  pub cause : OnErr result (Rose faults then)
  pub rises : faults ≤ then
  pub counts : now ≡ read_once result piece.owner reads
