use Rattle.std.proofs.Common.{ap, ◌∙◌}
use Rattle.chunkqueue.specs.Items.{items_of, memory_front}
use Rattle.connection.proofs.Slicing.{joined, sees_start, sees_more, sees_over, sees_all}
use Rattle.connection.proofs.looking.scanned.Goals as goal

pub loop-slice-init : goal.loop-slice-init
loop-slice-init c = sees_start (memory_front (items_of c.args.input.now)) _ _ (ap joined c.into_iter-slice-iterator.ensures.into_iter_gives ∙ c.slices-slice-items.ensures.bytes) c.new-scan.ensures.scan

pub loop-slice-preserved : goal.loop-slice-preserved
loop-slice-preserved c = sees_more (memory_front (items_of c.args.input.now)) c.in-Some.slice.now c.loop-slice.slice-iterator c.next.new.self c.loop-slice.scan c.see-scan.result c.loop-slice.invariant c.in-Some.ensures.steps c.see-scan.ensures.scan

pub returns-in_default : goal.returns-in_default
returns-in_default c = record {
  scan = sees_over (memory_front (items_of c.args.input.now)) c.next.new.self c.see-scan.result c.end.result
      (sees_more (memory_front (items_of c.args.input.now)) c.in-Some.slice.now c.loop-slice.slice-iterator c.next.new.self c.loop-slice.scan c.see-scan.result c.loop-slice.invariant c.in-Some.ensures.steps c.see-scan.ensures.scan)
      c.end.ensures.value c.in_default.not-NotYet;
}

pub returns : goal.returns
returns c = record { scan = sees_all (memory_front (items_of c.args.input.now)) _ c.loop-slice.scan c.loop-slice.invariant c.in-None.ensures.steps.0 }
