use Rattle.chunkqueue.proofs.Calls.{joined_fits, joined_items, joined_staged, joined_as}
use Rattle.chunkqueue.proofs.plain.PlainQueueQueue.append_all.Goals as goal

pub append-requires : goal.append-requires
append-requires c = joined_fits _ _ c.self.inside.chain c.from.inside.chain _ _ c.self.view_is c.from.view_is c.self.invariant c.from.invariant c.requires.fits

pub invariant_of-self : goal.invariant_of-self
invariant_of-self c = joined_as _ _ c.self.inside.chain c.from.inside.chain _ _ _ c.self.view_is c.from.view_is c.self.invariant c.from.invariant c.append.ensures.all c.requires.fits

pub returns-clause-items : goal.returns-clause-items
returns-clause-items c = joined_items _ _ c.self.inside.chain c.from.inside.chain _ c.self.view_is c.from.view_is c.append.ensures.all

pub returns-clause-staged : goal.returns-clause-staged
returns-clause-staged c = joined_staged _ _ c.self.inside.chain c.from.inside.chain _ _ c.self.view_is c.from.view_is c.self.invariant c.append.ensures.all
