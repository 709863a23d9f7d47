use Rattle.std.proofs.Common.{List, map, sym, subst, arith}
use Rattle.buffer_pool.specs.State.{ChunkState}
use Rattle.buffer_pool.specs.Edits.{last_of}
use Rattle.chunkqueue.specs.Items.{Byte}
use Rattle.chunkqueue.specs.Pooled.{Gains}
use Rattle.chunkqueue.proofs.Pooling.{filled_gains, put_weight, last_tight, memory_weight}
use Rattle.chunkqueue.proofs.merging.fill_back.Goals as goal

pub returns-clause-gains : goal.returns-clause-gains
returns-clause-gains c =
    subst (λ (l : List ChunkState). Gains c.args.chunks.now l (map Byte c.args.bytes.now)) (sym c.put_back.ensures.list)
    (filled_gains c.args.chunks.now c.args.bytes.now c.requires.kept c.in-Some.ensures.0 c.in-Some.ensures.1 c.requires.some (omega (arith, c.in-Some.ensures.3, c.in-Some.room-is)))

pub returns-clause-last : goal.returns-clause-last
returns-clause-last c = put_weight c.args.chunks.now c.put_back.new.self c.args.bytes.now c.in-Some.ensures.0 c.in-Some.ensures.1 c.put_back.ensures.list

pub returns-then-room-bytes-clause-apart : goal.returns-then-room-bytes-clause-apart
returns-then-room-bytes-clause-apart c behind =
    omega (arith, last_tight c.args.chunks.now behind c.requires.kept.tight, memory_weight (last_of c.args.chunks.now) c.in-Some.ensures.1, c.in-Some.ensures.3, c.in-Some.room-is, c.if-room-bytes.true)
