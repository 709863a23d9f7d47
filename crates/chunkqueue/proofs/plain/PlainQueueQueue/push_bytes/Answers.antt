use Rattle.chunkqueue.proofs.Calls.{pushed_bytes, with_bytes}
use Rattle.chunkqueue.proofs.plain.PlainQueueQueue.push_bytes.Goals as goal

pub invariant_of-self : goal.invariant_of-self
invariant_of-self c = with_bytes _ c.self.inside.chain _ _ _ _ _ c.self.view_is c.self.invariant c.in-Ok-push_back.ensures.ok c.in-Ok.ensures c.is_empty.ensures c.if-is_empty.false c.requires.fits

pub returns-in-Ok-push_back-clause-ok : goal.returns-in-Ok-push_back-clause-ok
returns-in-Ok-push_back-clause-ok c = pushed_bytes _ c.self.inside.chain _ _ _ c.self.view_is c.in-Ok-push_back.ensures.ok c.in-Ok.ensures
