use Rattle.chunkqueue.proofs.Calls.{leads}
use Rattle.chunkqueue.proofs.plain.PlainQueueQueue.front_bytes.Goals as goal

pub returns-clause-leads : goal.returns-clause-leads
returns-clause-leads c = leads _ c.self.inside.chain _ _ c.self.view_is c.self.invariant c.front_bytes.ensures.front
