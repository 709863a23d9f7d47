use Rattle.buffer_pool.specs.Shown.{shown}
use Rattle.chunkqueue.proofs.Copying.{copied_more, copied_full, still_copies}
use Rattle.chunkqueue.proofs.Viewing.{before_view}
use Rattle.chunkqueue.proofs.looking.peek_into.Goals as goal

pub returns-then-count-buf-clause-bytes : goal.returns-then-count-buf-clause-bytes
returns-then-count-buf-clause-bytes c = (copied_full _ _ _ _ _ _ _ _ (still_copies _ _ _ _ _ _ c.loop-view.invariant (before_view c.loop-view.view-iterator c.next.new.self (shown c.in-Some.view) c.in-Some.ensures.steps c.in-Bytes.is))
    c.copy_at-count.ensures.count c.copy_at-count.ensures.bytes c.copy_at-count.auto.buf c.if-count-buf.true).bytes

pub loop-view-preserved : goal.loop-view-preserved
loop-view-preserved c = copied_more _ _ _ _ _ _ _ _ (still_copies _ _ _ _ _ _ c.loop-view.invariant (before_view c.loop-view.view-iterator c.next.new.self (shown c.in-Some.view) c.in-Some.ensures.steps c.in-Bytes.is))
    c.copy_at-count.ensures.count c.copy_at-count.ensures.bytes c.copy_at-count.auto.buf c.if-count-buf.false
