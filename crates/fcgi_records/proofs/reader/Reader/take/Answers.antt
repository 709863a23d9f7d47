use Rattle.buffer_pool.proofs.Keeping.{kept_beside}
use Rattle.fcgi_records.proofs.reader.Reader.take.Goals as goal

pub returns-then-is_framing-clause-kept : goal.returns-then-is_framing-clause-kept
returns-then-is_framing-clause-kept c =
    kept_beside c.args.store.now c.take_framing.new.store c.args.out.now.numbers c.args.input.now.numbers c.take_framing.new.input.numbers c.take_framing.ensures.kept
