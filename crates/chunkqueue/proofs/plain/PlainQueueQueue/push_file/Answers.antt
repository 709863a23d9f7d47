use Rattle.std.proofs.Common.{refl, arith}
use Rattle.chunkqueue.proofs.Calls.{pushed_range, with_range}
use Rattle.chunkqueue.proofs.plain.PlainQueueQueue.push_file.Goals as goal

pub invariant_of-self : goal.invariant_of-self
invariant_of-self c = with_range _ c.self.inside.chain _ _ _ _ c.self.view_is c.self.invariant c.in-Ok-push_back.ensures.ok c.in-Ok.ensures refl (omega arith) c.requires.fits

pub returns-in-Ok-push_back-clause-ok : goal.returns-in-Ok-push_back-clause-ok
returns-in-Ok-push_back-clause-ok c = pushed_range _ c.self.inside.chain _ _ _ c.self.view_is c.in-Ok-push_back.ensures.ok c.in-Ok.ensures
