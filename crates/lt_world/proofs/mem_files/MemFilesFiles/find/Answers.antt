use Rattle.lt_world.proofs.FileLaws.{leads_find}
use Rattle.lt_world.proofs.mem_files.MemFilesFiles.find.Goals as goal

pub returns-clause-later : goal.returns-clause-later
returns-clause-later c = record { leads = leads_find c.args.self.now c.find_next.new.self c.find_next.result c.args.owner c.find_next.ensures.becomes c.find_next.ensures.planned; faults = c.find_next.ensures.faults }
