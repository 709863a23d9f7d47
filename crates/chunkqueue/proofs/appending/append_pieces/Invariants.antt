use Rattle.std.proofs.Common.{length}
use Rattle.chunkqueue.proofs.Pieces.{Appending}
use Rattle.chunkqueue.proofs.appending.append_pieces.Given as goal

abbrev pub invariant-loop-rest : goal.invariant-loop-rest
invariant-loop-rest l = Appending l.initial.chunks l.initial.pool l.bytes l.chunks l.pool l.rest

abbrev pub decreases-loop-rest : goal.decreases-loop-rest
decreases-loop-rest l = length l.rest
