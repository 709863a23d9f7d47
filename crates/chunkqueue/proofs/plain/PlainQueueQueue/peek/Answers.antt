use Rattle.std.proofs.Common.{ℕ, List, min, length, take, ap, ◌∙◌}
use Rattle.chunkqueue.proofs.Calls.{peeked}
use Rattle.chunkqueue.proofs.plain.PlainQueueQueue.peek.Goals as goal

pub returns-clause-count : goal.returns-clause-count
returns-clause-count c = c.peek.ensures.count ∙ ap (λ (m : List ℕ). min (length c.args.buf.now) (length m)) (peeked _ c.self.inside.chain _ c.self.view_is c.self.invariant)

pub returns-clause-bytes : goal.returns-clause-bytes
returns-clause-bytes c = c.peek.ensures.bytes ∙ ap (λ (m : List ℕ). take c.peek.result m) (peeked _ c.self.inside.chain _ c.self.view_is c.self.invariant)
