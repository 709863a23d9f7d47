use Rattle.std.proofs.Common.{sym}
use Rattle.settings.proofs.Last.{none_is}
use Rattle.settings.proofs.counts.global_place.Goals as goal

pub returns-in-None : goal.returns-in-None
returns-in-None c = sym (none_is c.args.key c.args.blocks.now c.in-None.ensures.cases)
