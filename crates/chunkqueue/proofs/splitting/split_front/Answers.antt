use Rattle.std.proofs.Common.{sym, ◌∙◌}
use Rattle.chunkqueue.proofs.Parting.{gains_memory, gains_range, memory_left, range_left}
use Rattle.chunkqueue.proofs.splitting.split_front.Goals as goal

pub returns-in-Bytes-clause-gains : goal.returns-in-Bytes-clause-gains
returns-in-Bytes-clause-gains c =
    gains_memory c.args.chunks.now c.append_piece.new.chunks c.args.from.now c.args.n c.first_bytes.result.now c.requires.first (sym c.front_kind.ensures ∙ c.in-Bytes.is) c.requires.inside c.first_bytes.ensures.bytes c.append_piece.ensures.gains

pub returns-in-Bytes-clause-left : goal.returns-in-Bytes-clause-left
returns-in-Bytes-clause-left c = memory_left c.args.from.now c.drop_from_front.new.self c.args.n c.requires.first (sym c.front_kind.ensures ∙ c.in-Bytes.is) c.requires.inside c.drop_from_front.ensures.list

pub returns-in-Ok-clause-gains : goal.returns-in-Ok-clause-gains
returns-in-Ok-clause-gains c =
    gains_range c.args.chunks.now c.append_range.new.chunks c.args.from.now c.args.n c.in-File.file c.in-File.start c.in-File.len c.requires.first (sym c.front_kind.ensures ∙ c.in-File.is) c.requires.inside c.in-Ok.ensures.gains

pub returns-in-Ok-clause-left : goal.returns-in-Ok-clause-left
returns-in-Ok-clause-left c =
    range_left c.args.from.now c.set_front.new.self c.args.n c.in-File.file c.in-File.start c.in-File.len c.requires.first (sym c.front_kind.ensures ∙ c.in-File.is) c.requires.inside c.set_front.ensures.list
