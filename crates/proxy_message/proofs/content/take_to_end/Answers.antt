use Rattle.std.proofs.Common.{arith}
use Rattle.buffer_pool.proofs.Keeping.{kept_beside}
use Rattle.proxy_message.proofs.ContentLemmas.{to_end_takes, above_takes}
use Rattle.proxy_message.proofs.content.take_to_end.Goals as goal

pub returns-then-left-eq0-clause-ok : goal.returns-then-left-eq0-clause-ok
returns-then-left-eq0-clause-ok c = λ p. above_takes p c.args.left c.args.input.now c.args.body.now c.drop_first.new.input c.requires.memory c.if-left-eq0.true c.requires.some c.drop_first.ensures.items

pub returns-then-left-eq0-clause-kept : goal.returns-then-left-eq0-clause-kept
returns-then-left-eq0-clause-kept c = kept_beside c.args.store.now c.drop_first.new.store c.args.body.now.numbers c.args.input.now.numbers c.drop_first.new.input.numbers c.drop_first.ensures.kept

pub returns-in-Ok-clause-ok : goal.returns-in-Ok-clause-ok
returns-in-Ok-clause-ok c = λ p.
    to_end_takes p c.args.left c.min-n.result c.args.input.now c.args.body.now c.steal.new.from c.steal.new.self c.requires.memory
    (omega (arith, c.min-n.ensures)) (omega (arith, c.min-n.ensures, c.len.ensures.count)) c.in-Ok.ensures.items c.in-Ok.ensures.from
