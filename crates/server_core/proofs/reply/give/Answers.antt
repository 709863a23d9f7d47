use Rattle.std.proofs.Common.{◌++◌, map, None}
use Rattle.chunkqueue.specs.Items.{Byte, items_of}
use Rattle.connection.specs.Connection.{file_number}
use Rattle.server_core.proofs.Settling.{given_waits, bytes_some, kept_closed}
use Rattle.server_core.proofs.reply.give.Goals as goal

pub returns-in-Ok-clause-waits : goal.returns-in-Ok-clause-waits
returns-in-Ok-clause-waits c = given_waits None c.args.conn.now.held c.answer-given.new.self.held (map Byte c.args.head.now ++ items_of c.args.body) (file_number c.args.file) c.args.last (bytes_some c.args.head.now (items_of c.args.body) c.requires.some) c.in-Ok.ensures.ok

pub returns-in-Err-clause-kept : goal.returns-in-Err-clause-kept
returns-in-Err-clause-kept c =
    kept_closed c.args.store.now c.answer-given.new.store c.close.new.store (c.args.conn.now.numbers ++ c.args.body.numbers) c.answer-given.new.self.numbers c.answer-given.new.body.numbers c.answer-given.ensures.kept c.close.ensures.kept
