use Rattle.std.proofs.Common.{◌≡◌, [], ◌∷◌, ◌++◌, List, sym, ap, subst, ◌∙◌}
use Rattle.buffer_pool.specs.State.{ChunkState}
use Rattle.buffer_pool.specs.Edits.{blank, as_file}
use Rattle.buffer_pool.specs.Kept.{numbers}
use Rattle.chunkqueue.specs.Items.{range}
use Rattle.chunkqueue.specs.Pooled.{Gains}
use Rattle.chunkqueue.proofs.Pooling.{range_gains}
use Rattle.chunkqueue.proofs.Taking.{taken_blank, kept_taken}
use Rattle.chunkqueue.proofs.appending.append_range.Goals as goal

pub returns-in-Ok-clause-gains : goal.returns-in-Ok-clause-gains
returns-in-Ok-clause-gains c =
    let taken = taken_blank c.args.pool.now.free c.args.pool.now c.take.new.self c.in-Ok.chunk c.in-Ok.ensures.newest in
    let made : c.set_file.new.self ≡ as_file (blank c.in-Ok.chunk.number) c.args.file c.args.start c.args.len
    = c.set_file.ensures.chunk ∙ ap (λ (x : ChunkState). as_file x c.args.file c.args.start c.args.len) taken in
    let all = c.push_back.ensures.list ∙ ap (λ (x : ChunkState). c.args.chunks.now ++ x ∷ []) made in
    subst (λ (l : List ChunkState). Gains c.args.chunks.now l (range c.args.file c.args.start c.args.len)) (sym all)
    (range_gains c.args.chunks.now c.in-Ok.chunk.number c.args.file c.args.start c.args.len c.requires.kept c.requires.some c.requires.ends)

pub returns-in-Ok-clause-kept : goal.returns-in-Ok-clause-kept
returns-in-Ok-clause-kept c =
    kept_taken c.args.pool.now c.take.new.self (numbers c.args.chunks.now) (numbers c.push_back.new.self) c.in-Ok.chunk.number c.in-Ok.ensures.kept
    (c.push_back.ensures.numbers ∙ ap (λ n. numbers c.args.chunks.now ++ n ∷ []) c.set_file.ensures.number)
