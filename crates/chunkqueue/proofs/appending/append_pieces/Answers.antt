use Rattle.std.proofs.Common.{arith}
use Rattle.chunkqueue.proofs.Pieces.{appending_more}
use Rattle.chunkqueue.proofs.appending.append_pieces.Goals as goal

pub loop-rest-preserved : goal.loop-rest-preserved
loop-rest-preserved c =
    appending_more c.args.chunks.now c.args.pool.now c.args.bytes.now c.loop-rest.chunks c.append_piece.new.chunks c.loop-rest.pool c.append_piece.new.pool c.loop-rest.rest.now c.split_at.result.0.now c.split_at.result.1.now
    c.loop-rest.invariant (omega arith) c.split_at.ensures.front c.split_at.ensures.back c.append_piece.ensures.gains c.append_piece.ensures.length c.append_piece.ensures.spare c.append_piece.ensures.filled c.append_piece.ensures.kept
