use Rattle.std.proofs.Common.{ap}
use Rattle.buffer_pool.specs.State.{ChunkState}
use Rattle.buffer_pool.specs.Kept.{numbers}
use Rattle.chunkqueue.proofs.Pooling.{piece_as}
use Rattle.chunkqueue.proofs.Taking.{taken_blank, piece_kept}
use Rattle.chunkqueue.proofs.appending.append_piece.Goals as goal

pub returns-clause-gains : goal.returns-clause-gains
returns-clause-gains c =
    piece_as c.args.chunks.now c.fill_back.new.chunks c.push_back.new.self c.in-Ok.chunk c.put.new.self c.args.piece.now c.requires.kept c.requires.some c.requires.most
    c.if-fill_back.ensures.same.0 c.if-fill_back.ensures.apart
    (taken_blank c.fill_back.new.pool.free c.fill_back.new.pool c.take.new.self c.in-Ok.chunk c.in-Ok.ensures.newest) c.put.ensures.chunk c.push_back.ensures.list

pub returns-clause-kept : goal.returns-clause-kept
returns-clause-kept c =
    piece_kept c.args.pool.now c.fill_back.new.pool c.take.new.self c.put.new.pool (numbers c.args.chunks.now) (numbers c.fill_back.new.chunks) (numbers c.push_back.new.self)
    c.put.new.self.number c.in-Ok.chunk.number c.if-fill_back.ensures.same.1 c.in-Ok.ensures.kept c.put.ensures.kept
    (ap (λ (x : ChunkState). x.number) c.put.ensures.chunk) c.fill_back.ensures.numbers c.push_back.ensures.numbers
