use Rattle.std.proofs.Common.{ap, length, arith}
use Rattle.server_core.proofs.Settling.{body_ends, body_count, kept_with}
use Rattle.server_core.proofs.reply.send_part.Goals as goal

pub give-requires-clause-body : goal.give-requires-clause-body
give-requires-clause-body g c = body_ends c.new-body.result c.push_file.new.self c.args.file.0 c.args.start c.args.len c.new-body.ensures.empty c.in-Ok.ensures.ok c.requires.bytes

pub give-requires-clause-fits : goal.give-requires-clause-fits
give-requires-clause-fits g c = omega (arith, body_count c.new-body.result c.push_file.new.self c.args.file.0 c.args.start c.args.len c.new-body.ensures.empty c.in-Ok.ensures.ok, c.requires.short, c.requires.within)

pub returns-clause-kept : goal.returns-clause-kept
returns-clause-kept g c = kept_with c.args.store.now c.push_file.new.store c.give.new.store c.new-body.result c.args.conn.now.numbers c.push_file.new.self.numbers c.give.new.conn.numbers c.new-body.ensures.empty c.push_file.ensures.kept c.give.ensures.kept
