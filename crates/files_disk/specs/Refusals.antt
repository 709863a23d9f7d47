-- What an error of the system says of a name (POSIX, "stat": ENOENT, ENOTDIR, ENAMETOOLONG, ENOMEM).
use Rattle.std.specs.declared.io.ErrorKind.{ErrorKind}
use Rattle.std.specs.declared.io.ErrorKind.TheVariants as kind
use Rattle.files_disk.specs.declared.refusals.Refusal.{Refusal}
use Rattle.files_disk.specs.declared.refusals.Refusal.TheVariants as refusal

-- nothing has the name where none is found, where it leads through a file, and where no name is so long
abbrev pub refusal_by : ErrorKind → Refusal
refusal_by kind.NotFound = refusal.Missing
refusal_by kind.NotADirectory = refusal.Missing
refusal_by kind.InvalidFilename = refusal.Missing
refusal_by kind.OutOfMemory = refusal.NoMemory
refusal_by _ = refusal.Failed
