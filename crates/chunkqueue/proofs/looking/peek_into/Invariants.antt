use Rattle.chunkqueue.specs.Plain.{memory_before}
use Rattle.chunkqueue.specs.Pooled.{segments_of}
use Rattle.chunkqueue.proofs.Copying.{Copies}
use Rattle.chunkqueue.proofs.looking.peek_into.Given as goal

abbrev pub invariant-loop-view : goal.invariant-loop-view
invariant-loop-view l = Copies (memory_before (segments_of l.chunks)) (memory_before (segments_of l.view-iterator)) l.count l.buf l.fn.buf
