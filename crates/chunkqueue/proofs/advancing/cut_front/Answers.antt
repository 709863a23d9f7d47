use Rattle.chunkqueue.proofs.Leaving.{front_held}
use Rattle.chunkqueue.proofs.advancing.cut_front.Goals as goal

pub drop_from_front-requires-clause-held : goal.drop_from_front-requires-clause-held
drop_from_front-requires-clause-held c = front_held c.args.chunks.now c.args.n c.requires.within
