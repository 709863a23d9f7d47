use Rattle.chunkqueue.proofs.Segments.{fits-memory}
use Rattle.chunkqueue.proofs.segment.Segment.drop_front.Goals as goal

pub drop_front-requires : goal.drop_front-requires
drop_front-requires c = fits-memory _ _ _ c.in-Memory.is c.requires
