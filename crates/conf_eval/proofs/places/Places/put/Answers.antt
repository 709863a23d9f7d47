use Rattle.conf_eval.proofs.Placed.{updates}
use Rattle.conf_eval.proofs.places.Places.put.Goals as goal

pub returns-in-Ok-clause-ok : goal.returns-in-Ok-clause-ok
returns-in-Ok-clause-ok c = updates c.args.key.items c.args.at c.args.self.now.by_key.entries c.insert.new.self.entries c.in-Ok.ensures.updates.3 c.in-Ok.ensures.updates.1
