use Rattle.buffer_pool.proofs.Keeping.{kept_beside}
use Rattle.lt_http_body.proofs.body.Body.take.Goals as goal

pub returns-then-is_in_line-clause-kept : goal.returns-then-is_in_line-clause-kept
returns-then-is_in_line-clause-kept c =
    kept_beside c.args.store.now c.take_line.new.store c.args.body.now.numbers c.args.input.now.numbers c.take_line.new.input.numbers c.take_line.ensures.kept
