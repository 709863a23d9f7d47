use Rattle.std.proofs.Common.{arith, ap, ◌∙◌, ◌++◌, length, take, List}
use Rattle.buffer_pool.specs.Kept.{numbers}
use Rattle.chunkqueue.specs.Items.{Item}
use Rattle.chunkqueue.specs.Pooled.{items_of_chunks}
use Rattle.chunkqueue.proofs.Parting.{moved_some, moved_less, moved_more, stolen_kept}
use Rattle.chunkqueue.proofs.splitting.steal_chunks.Goals as goal

pub split_front-requires-clause-first : goal.split_front-requires-clause-first
split_front-requires-clause-first c =
    moved_some c.args.chunks.now c.unstage.new.chunks c.steal_whole-left.new.chunks c.steal_whole-left.new.from c.args.n c.steal_whole-left.result c.steal_whole-left.ensures.moved
    (omega (arith, c.requires.within, ap length c.unstage.ensures.items)) c.if-left-gt0.true

pub split_front-requires-clause-inside : goal.split_front-requires-clause-inside
split_front-requires-clause-inside c = c.steal_whole-left.ensures.inside (split_front-requires-clause-first c)

pub split_front-requires-clause-spare : goal.split_front-requires-clause-spare
split_front-requires-clause-spare c =
    let some = moved_some c.args.chunks.now c.unstage.new.chunks c.steal_whole-left.new.chunks c.steal_whole-left.new.from c.args.n c.steal_whole-left.result c.steal_whole-left.ensures.moved
    (omega (arith, c.requires.within, ap length c.unstage.ensures.items)) c.if-left-gt0.true in
    let less = moved_less c.args.chunks.now c.unstage.new.chunks c.steal_whole-left.new.chunks c.steal_whole-left.new.from c.args.n c.steal_whole-left.result c.steal_whole-left.ensures.moved some (c.steal_whole-left.ensures.inside some) in
    omega (arith, c.steal_whole-left.ensures.spare, c.requires.spare (omega (arith, less, ap length c.unstage.ensures.items)))

pub returns-then-left-gt0-clause-items : goal.returns-then-left-gt0-clause-items
returns-then-left-gt0-clause-items c =
    (moved_more c.args.chunks.now c.unstage.new.chunks c.steal_whole-left.new.chunks c.steal_whole-left.new.from c.args.n c.steal_whole-left.result c.steal_whole-left.ensures.moved c.split_front.new.chunks c.split_front.ensures.gains).items
    ∙ ap (λ (i : List Item). items_of_chunks c.args.chunks.now ++ take c.args.n i) c.unstage.ensures.items

pub returns-then-left-gt0-clause-kept : goal.returns-then-left-gt0-clause-kept
returns-then-left-gt0-clause-kept c =
    stolen_kept c.args.pool.now c.steal_whole-left.new.pool c.split_front.new.pool (numbers c.args.chunks.now) (numbers c.args.from.now) (numbers c.unstage.new.chunks) (numbers c.steal_whole-left.new.chunks) (numbers c.steal_whole-left.new.from)
    (numbers c.split_front.new.chunks) (numbers c.split_front.new.from) c.unstage.ensures.numbers c.steal_whole-left.ensures.kept c.split_front.ensures.numbers c.split_front.ensures.kept
