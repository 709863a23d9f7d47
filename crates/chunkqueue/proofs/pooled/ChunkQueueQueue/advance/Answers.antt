use Rattle.std.proofs.Common.{ap, ◌∙◌, drop}
use Rattle.chunkqueue.specs.Items.{Contents, items_of, staged_of}
use Rattle.chunkqueue.proofs.Leaving.{after_pooled, items-after, staged-after}
use Rattle.chunkqueue.proofs.Queues.{front_fits, front_within, kept_dense}
use Rattle.chunkqueue.proofs.pooled.ChunkQueueQueue.advance.Goals as goal

pub overflow_sub-self : goal.overflow_sub-self
overflow_sub-self c = front_within _ c.self.inside.chunks _ _ c.self.view_is c.self.invariant c.requires.within

pub invariant_of-self : goal.invariant_of-self
invariant_of-self c = after_pooled _ c.self.inside.chunks _ _ c.self.invariant (front_fits _ c.self.inside.chunks _ c.self.view_is c.requires.within) c.drop_from.ensures.after

pub returns-clause-items : goal.returns-clause-items
returns-clause-items c =
    items-after _ c.self.inside.chunks _ c.self.invariant.kept (front_fits _ c.self.inside.chunks _ c.self.view_is c.requires.within) c.drop_from.ensures.after
    ∙ ap (λ (q : Contents). drop c.args.n (items_of q)) c.self.view_is

pub returns-clause-staged : goal.returns-clause-staged
returns-clause-staged c =
    staged-after _ c.self.inside.chunks _ c.self.invariant.kept (front_fits _ c.self.inside.chunks _ c.self.view_is c.requires.within) c.drop_from.ensures.after
    ∙ ap (λ (q : Contents). drop c.args.n (staged_of q)) c.self.view_is

pub returns-clause-dense : goal.returns-clause-dense
returns-clause-dense c = kept_dense c.drop_from.new.chunks (after_pooled _ c.self.inside.chunks _ _ c.self.invariant (front_fits _ c.self.inside.chunks _ c.self.view_is c.requires.within) c.drop_from.ensures.after).kept
