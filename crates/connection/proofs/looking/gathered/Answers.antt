use Rattle.std.proofs.Common.{ℕ, ◌-◌, ◌++◌, take, ap, ◌∙◌, arith}
use Rattle.chunkqueue.specs.Items.{items_of, memory_front}
use Rattle.connection.proofs.Slicing.{joined, gathers_start, gathers_more, gathered_full, gathered_all}
use Rattle.connection.proofs.looking.gathered.Goals as goal

pub loop-slice-init : goal.loop-slice-init
loop-slice-init c = gathers_start (memory_front (items_of c.args.input.now)) _ _ c.args.n (ap joined c.into_iter-slice-iterator.ensures.into_iter_gives ∙ c.slices-slice-items.ensures.bytes) c.in_ok-text.ensures

pub overflow_sub-left : goal.overflow_sub-left
overflow_sub-left c = omega (arith, c.loop-slice.invariant.short, c.len.ensures)

pub returns-then-left-slice : goal.returns-then-left-slice
returns-then-left-slice c =
    gathered_full (memory_front (items_of c.args.input.now)) c.in-Some.slice.now c.loop-slice.text c.push_all.new.self c.loop-slice.slice-iterator c.next.new.self c.args.n c.loop-slice.invariant c.in-Some.ensures.steps
    (c.in_ok-push_all.ensures.ok ∙ ap (λ (m : ℕ). c.loop-slice.text ++ take (c.args.n - m) c.in-Some.slice.now) c.len.ensures) (omega (arith, c.if-left-slice.true, c.len.ensures))

pub loop-slice-preserved : goal.loop-slice-preserved
loop-slice-preserved c =
    gathers_more (memory_front (items_of c.args.input.now)) c.in-Some.slice.now c.loop-slice.text c.push_all-in-loop-slice.new.self c.loop-slice.slice-iterator c.next.new.self c.args.n c.loop-slice.invariant c.in-Some.ensures.steps
    c.in_ok-push_all-2.ensures.ok (omega (arith, c.if-left-slice.false, c.len.ensures))

pub returns : goal.returns
returns c = gathered_all (memory_front (items_of c.args.input.now)) c.loop-slice.text _ c.args.n c.loop-slice.invariant c.in-None.ensures.steps.0 c.requires.within
