use Rattle.std.proofs.Common.{ap}
use Rattle.chunkqueue.specs.Items.{Contents}
use Rattle.fcgi_gateway.proofs.Buffers.{handed_kept}
use Rattle.fcgi_gateway.proofs.handing.hand_over.Goals as goal

pub returns-clause-kept : goal.returns-clause-kept
returns-clause-kept c =
    handed_kept c.args.store.now c.skip.new.store c.append_all.new.store c.close.new.store c.args.queue.numbers c.skip.new.queue.numbers c.args.into.now.numbers c.append_all.new.self.numbers c.append_all.new.from.numbers
    c.skip.ensures.kept c.append_all.ensures.kept (ap (λ (q : Contents). q.numbers) c.append_all.ensures.from) c.close.ensures.kept
