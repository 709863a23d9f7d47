use Rattle.std.proofs.Common.{length}
use Rattle.queue_tests.proofs.buffers.empty.Given as goal

abbrev pub decreases-loop-chunk : goal.decreases-loop-chunk
decreases-loop-chunk g l = length l.rest
