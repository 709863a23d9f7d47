use Rattle.std.proofs.Common.{ap, sym, ◌∙◌}
use Rattle.chunkqueue.specs.Plain.{memory_before}
use Rattle.chunkqueue.proofs.Copying.{starts, copied_all, copied_more, copied_full, before-file, before-memory, still_copies}
use Rattle.chunkqueue.proofs.chain.copy_memory.Goals as goal

pub loop-segment-init : goal.loop-segment-init
loop-segment-init c = still_copies _ _ _ _ _ _ (starts _ _) (ap memory_before (sym (c.into_iter-segment-iterator.ensures.into_iter_gives ∙ c.iter-segment-items.ensures.rest)))

pub returns-in_default-clause-count : goal.returns-in_default-clause-count
returns-in_default-clause-count c = (copied_all _ _ _ _ _ c.loop-segment.invariant (before-file _ _ _ _ c.in-Some.ensures.steps c.in_default.is)).size

pub returns-in_default-clause-bytes : goal.returns-in_default-clause-bytes
returns-in_default-clause-bytes c = (copied_all _ _ _ _ _ c.loop-segment.invariant (before-file _ _ _ _ c.in-Some.ensures.steps c.in_default.is)).bytes

pub returns-in_default-clause-rest : goal.returns-in_default-clause-rest
returns-in_default-clause-rest c = c.loop-segment.invariant.rest

pub copy_at-count-requires : goal.copy_at-count-requires
copy_at-count-requires c = c.loop-segment.invariant.within

pub returns-then-count-buf-clause-count : goal.returns-then-count-buf-clause-count
returns-then-count-buf-clause-count c = (copied_full _ _ _ _ _ _ _ _ (still_copies _ _ _ _ _ _ c.loop-segment.invariant (before-memory _ _ _ _ _ c.in-Some.ensures.steps c.in-Memory.is c.bytes.ensures))
    c.copy_at-count.ensures.count c.copy_at-count.ensures.bytes c.copy_at-count.auto.buf c.if-count-buf.true).size

pub returns-then-count-buf-clause-bytes : goal.returns-then-count-buf-clause-bytes
returns-then-count-buf-clause-bytes c = (copied_full _ _ _ _ _ _ _ _ (still_copies _ _ _ _ _ _ c.loop-segment.invariant (before-memory _ _ _ _ _ c.in-Some.ensures.steps c.in-Memory.is c.bytes.ensures))
    c.copy_at-count.ensures.count c.copy_at-count.ensures.bytes c.copy_at-count.auto.buf c.if-count-buf.true).bytes

pub loop-segment-preserved : goal.loop-segment-preserved
loop-segment-preserved c = copied_more _ _ _ _ _ _ _ _ (still_copies _ _ _ _ _ _ c.loop-segment.invariant (before-memory _ _ _ _ _ c.in-Some.ensures.steps c.in-Memory.is c.bytes.ensures))
    c.copy_at-count.ensures.count c.copy_at-count.ensures.bytes c.copy_at-count.auto.buf c.if-count-buf.false
