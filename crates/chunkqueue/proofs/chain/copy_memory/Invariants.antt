use Rattle.chunkqueue.specs.Plain.{memory_before}
use Rattle.chunkqueue.proofs.Copying.{Copies}
use Rattle.chunkqueue.proofs.chain.copy_memory.Given as goal

abbrev pub invariant-loop-segment : goal.invariant-loop-segment
invariant-loop-segment l = Copies (memory_before l.list) (memory_before l.segment-iterator) l.count l.buf l.fn.buf
