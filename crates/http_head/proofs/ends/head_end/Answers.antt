use Rattle.std.proofs.Common.{[]}
use Rattle.http_head.proofs.ends.head_end.Goals as goal

pub returns-clause-value : goal.returns-clause-value
returns-clause-value c = c.end.ensures.value c.args.bytes.now (c.see.ensures.scan [] c.new.ensures.scan)

pub returns-clause-within : goal.returns-clause-within
returns-clause-within c = c.end.ensures.within c.args.bytes.now (c.see.ensures.scan [] c.new.ensures.scan)
