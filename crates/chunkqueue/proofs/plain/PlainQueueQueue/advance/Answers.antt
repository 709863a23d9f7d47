use Rattle.chunkqueue.proofs.Calls.{front-fits, after_fits, after_items, after_staged}
use Rattle.chunkqueue.proofs.Segments.{after_plain}
use Rattle.chunkqueue.proofs.plain.PlainQueueQueue.advance.Goals as goal

pub overflow_sub-self : goal.overflow_sub-self
overflow_sub-self c = after_fits _ c.self.inside.chain _ _ c.self.view_is c.self.invariant c.requires.within

pub invariant_of-self : goal.invariant_of-self
invariant_of-self c = after_plain _ c.self.inside.chain _ _ c.self.invariant (front-fits _ c.self.inside.chain _ c.self.view_is c.requires.within) c.drop_front.ensures

pub returns-clause-items : goal.returns-clause-items
returns-clause-items c = after_items _ c.self.inside.chain _ _ _ c.self.view_is c.self.invariant c.drop_front.ensures c.requires.within

pub returns-clause-staged : goal.returns-clause-staged
returns-clause-staged c = after_staged _ c.self.inside.chain _ _ _ c.self.view_is c.self.invariant c.drop_front.ensures c.requires.within
