use Rattle.conf_value.proofs.Taken.{taken}
use Rattle.conf_value.proofs.array.take_out.Goals as goal

pub returns-clause-first : goal.returns-clause-first
returns-clause-first c = rw (c.replace.ensures.rest) (taken c.args.pairs.now c.args.at c.replace.result c.nothing.result c.replace.ensures.item)
