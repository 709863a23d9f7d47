use Rattle.std.proofs.Common.{List, ◌∷◌, ◌++◌, [], length, sym, ap, ◌∙◌, arith}
use Rattle.buffer_pool.specs.State.{ChunkState}
use Rattle.buffer_pool.specs.Kept.{numbers}
use Rattle.chunkqueue.specs.Pooled.{weight_of}
use Rattle.chunkqueue.proofs.Pooling.{memory_weight}
use Rattle.chunkqueue.proofs.Following.{follow_gains, range_apart, range_packed, packed_last, last_of-push, merged_kept}
use Rattle.chunkqueue.proofs.joining.attach.Goals as goal

pub returns-then-fill_back-clause-last : goal.returns-then-fill_back-clause-last
returns-then-fill_back-clause-last c = omega (arith, memory_weight c.args.chunk (sym c.kind.ensures.kind ∙ c.in-Bytes.is), ap length c.bytes.ensures.bytes, c.if-fill_back.ensures.last)

pub returns-then-fill_back-clause-kept : goal.returns-then-fill_back-clause-kept
returns-then-fill_back-clause-kept c =
    merged_kept c.args.pool.now c.fill_back.new.pool c.give.new.self (numbers c.args.chunks.now) (numbers c.fill_back.new.chunks) c.args.chunk.number (length c.bytes.result.now) c.fill_back.ensures.pool c.fill_back.ensures.numbers c.give.ensures.kept

pub returns-else-fill_back-clause-gains : goal.returns-else-fill_back-clause-gains
returns-else-fill_back-clause-gains c =
    follow_gains c.args.chunks.now c.push_back.new.self c.args.chunk c.tightened.result c.requires.kept c.requires.follows c.tightened.ensures.packed
    (c.push_back.ensures.list ∙ ap (λ (l : List ChunkState). l ++ c.tightened.result ∷ []) c.if-fill_back.ensures.same.0)
    (λ some. omega (arith, c.if-fill_back.ensures.apart some, memory_weight c.args.chunk (sym c.kind.ensures.kind ∙ c.in-Bytes.is), ap length c.bytes.ensures.bytes))

pub returns-else-fill_back-clause-last : goal.returns-else-fill_back-clause-last
returns-else-fill_back-clause-last c = packed_last c.fill_back.new.chunks c.push_back.new.self c.args.chunk c.tightened.result c.tightened.ensures.packed c.push_back.ensures.list

pub returns-in-File-clause-gains : goal.returns-in-File-clause-gains
returns-in-File-clause-gains c =
    let is = sym c.kind.ensures.kind ∙ c.in-File.is in
    follow_gains c.args.chunks.now c.push_back-in-File.new.self c.args.chunk c.args.chunk c.requires.kept c.requires.follows (range_packed c.args.chunk c.in-File.file c.in-File.start c.in-File.len is c.requires.follows) c.push_back-in-File.ensures.list
    (range_apart c.args.chunks.now c.args.chunk c.in-File.file c.in-File.start c.in-File.len c.requires.kept is)

pub returns-in-File-clause-last : goal.returns-in-File-clause-last
returns-in-File-clause-last c = omega (arith, ap weight_of (last_of-push c.args.chunks.now c.push_back-in-File.new.self c.args.chunk c.push_back-in-File.ensures.list))
