use Rattle.std.proofs.Common.{ap, ◌∙◌, ◌++◌, List, arith}
use Rattle.chunkqueue.specs.Items.{Item}
use Rattle.chunkqueue.specs.Pooled.{items_of_chunks, staged_of_chunks}
use Rattle.chunkqueue.proofs.Following.{behind_gains, behind_staged}
use Rattle.chunkqueue.proofs.joining.append_chunks.Goals as goal

pub returns-clause-still : goal.returns-clause-still
returns-clause-still c =
    (behind_gains c.args.chunks.now c.move_front.new.chunks c.move_front-2.new.chunks c.append-2.new.self c.unstage.new.chunks c.move_front.new.from c.move_front-2.new.from c.requires.kept c.unstage.ensures.follows
    c.move_front.ensures.gains c.move_front.ensures.from c.move_front-2.ensures.gains c.move_front-2.ensures.some c.move_front-2.ensures.last c.move_front-2.ensures.from c.append-2.ensures.list).kept

pub returns-clause-items : goal.returns-clause-items
returns-clause-items c =
    (behind_gains c.args.chunks.now c.move_front.new.chunks c.move_front-2.new.chunks c.append-2.new.self c.unstage.new.chunks c.move_front.new.from c.move_front-2.new.from c.requires.kept c.unstage.ensures.follows
    c.move_front.ensures.gains c.move_front.ensures.from c.move_front-2.ensures.gains c.move_front-2.ensures.some c.move_front-2.ensures.last c.move_front-2.ensures.from c.append-2.ensures.list).items
    ∙ ap (λ (i : List Item). items_of_chunks c.args.chunks.now ++ i) c.unstage.ensures.items

pub returns-clause-staged : goal.returns-clause-staged
returns-clause-staged c =
    (behind_gains c.args.chunks.now c.move_front.new.chunks c.move_front-2.new.chunks c.append-2.new.self c.unstage.new.chunks c.move_front.new.from c.move_front-2.new.from c.requires.kept c.unstage.ensures.follows
    c.move_front.ensures.gains c.move_front.ensures.from c.move_front-2.ensures.gains c.move_front-2.ensures.some c.move_front-2.ensures.last c.move_front-2.ensures.from c.append-2.ensures.list).staged
    ∙ behind_staged c.args.chunks.now (staged_of_chunks c.args.from.now) c.requires.kept (omega (arith, c.len.ensures.len))
