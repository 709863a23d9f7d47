use Rattle.chunkqueue.proofs.Cutting.{Placing}
use Rattle.chunkqueue.proofs.stealing.place_of.Given as goal

abbrev pub invariant-loop-segment : goal.invariant-loop-segment
invariant-loop-segment l = Placing l.list l.segment-iterator l.n l.count l.left
