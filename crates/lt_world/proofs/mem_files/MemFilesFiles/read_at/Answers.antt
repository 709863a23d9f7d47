use Rattle.lt_world.proofs.FileLaws.{leads_read}
use Rattle.lt_world.proofs.mem_files.MemFilesFiles.read_at.Goals as goal

pub returns-clause-later : goal.returns-clause-later
returns-clause-later c = record { leads = leads_read c.args.self.now c.read_next.new.self c.read_next.result c.args.owner c.read_next.ensures.becomes c.read_next.ensures.planned; faults = c.read_next.ensures.faults }
