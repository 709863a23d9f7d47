use Rattle.lt_world.proofs.FileLaws.{leads_open, opens_disk}
use Rattle.lt_world.proofs.mem_files.MemFilesFiles.open.Goals as goal

pub returns-clause-opens : goal.returns-clause-opens
returns-clause-opens c _ = opens_disk c.args.self.now c.open_next.new.self c.open_next.result c.args.owner c.args.path.now c.open_next.ensures.becomes c.open_next.ensures.right

pub returns-clause-later : goal.returns-clause-later
returns-clause-later c = record { leads = leads_open c.args.self.now c.open_next.new.self c.open_next.result c.args.owner c.args.path.now c.open_next.ensures.becomes c.open_next.ensures.planned; faults = c.open_next.ensures.faults }
