use Rattle.std.proofs.Common.{◌∙◌, ap, le_refl}
use Rattle.lt_world.specs.Memory.{disk_of}
use Rattle.lt_world.proofs.FileLaws.{leads_release, disk-release}
use Rattle.lt_world.proofs.mem_files.MemFilesFiles.release.Goals as goal

pub returns-clause-disk : goal.returns-clause-disk
returns-clause-disk c _ = ap disk_of c.close.ensures ∙ disk-release c.args.self.now c.args.file.0

pub returns-clause-later : goal.returns-clause-later
returns-clause-later c = record { leads = leads_release c.args.self.now c.close.new.self c.args.file.0 c.close.ensures; faults = rw c.close.ensures (le_refl c.args.self.now.faults) }
