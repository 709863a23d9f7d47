use Rattle.std.proofs.Common.{arith, refl}
use Rattle.buffer_pool.specs.Kept.{numbers}
use Rattle.chunkqueue.proofs.Parting.{as_parts, as_count, front_follows, follows_kept, whole_moved, beside_kept, cut_numbers, parts_long, numbers_long}
use Rattle.chunkqueue.proofs.splitting.steal_whole.Goals as goal

pub append_chunks-requires-clause-behind : goal.append_chunks-requires-clause-behind
append_chunks-requires-clause-behind c =
    follows_kept c.move_whole-left.new.front (front_follows c.move_whole-left.new.front c.move_whole-left.new.from c.args.from.now
    (as_parts c.move_whole-left.new.front c.move_whole-left.new.from c.args.from.now c.new-front.result c.new-front.ensures.empty c.move_whole-left.ensures.parts) c.requires.follows)

pub append_chunks-requires-clause-countable : goal.append_chunks-requires-clause-countable
append_chunks-requires-clause-countable c =
    omega (
      arith,
      c.requires.countable,
      parts_long c.args.from.now c.move_whole-left.new.front c.move_whole-left.new.from
          (as_parts c.move_whole-left.new.front c.move_whole-left.new.from c.args.from.now c.new-front.result c.new-front.ensures.empty c.move_whole-left.ensures.parts),
    )

pub append_chunks-requires-clause-counted : goal.append_chunks-requires-clause-counted
append_chunks-requires-clause-counted c =
    omega (
      arith,
      c.requires.counted,
      numbers_long c.args.from.now c.move_whole-left.new.front c.move_whole-left.new.from
          (as_parts c.move_whole-left.new.front c.move_whole-left.new.from c.args.from.now c.new-front.result c.new-front.ensures.empty c.move_whole-left.ensures.parts),
    )

pub returns-clause-moved : goal.returns-clause-moved
returns-clause-moved c =
    whole_moved c.args.chunks.now c.args.from.now c.move_whole-left.new.front c.move_whole-left.new.from c.append_chunks.new.chunks c.args.n c.move_whole-left.result c.requires.follows
    (as_parts c.move_whole-left.new.front c.move_whole-left.new.from c.args.from.now c.new-front.result c.new-front.ensures.empty c.move_whole-left.ensures.parts)
    (as_count c.move_whole-left.new.front c.new-front.result c.args.n c.move_whole-left.result c.new-front.ensures.empty c.move_whole-left.ensures.count)
    c.requires.kept c.append_chunks.ensures.still c.append_chunks.ensures.items c.append_chunks.ensures.staged

pub returns-clause-len : goal.returns-clause-len
returns-clause-len c =
    omega (
      arith,
      c.append_chunks.ensures.len,
      parts_long c.args.from.now c.move_whole-left.new.front c.move_whole-left.new.from
          (as_parts c.move_whole-left.new.front c.move_whole-left.new.from c.args.from.now c.new-front.result c.new-front.ensures.empty c.move_whole-left.ensures.parts),
    )

pub returns-clause-kept : goal.returns-clause-kept
returns-clause-kept c =
    beside_kept c.args.pool.now c.append_chunks.new.pool (numbers c.args.chunks.now) (numbers c.args.from.now) (numbers c.move_whole-left.new.front) (numbers c.move_whole-left.new.from) (numbers c.append_chunks.new.chunks) (numbers c.move_whole-left.new.from)
    (cut_numbers c.args.from.now c.move_whole-left.new.front c.move_whole-left.new.from
    (as_parts c.move_whole-left.new.front c.move_whole-left.new.from c.args.from.now c.new-front.result c.new-front.ensures.empty c.move_whole-left.ensures.parts)) refl c.append_chunks.ensures.kept
