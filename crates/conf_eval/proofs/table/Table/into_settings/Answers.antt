use Rattle.conf_eval.proofs.Forms.{good_settings}
use Rattle.conf_eval.proofs.table.Table.into_settings.Goals as goal

pub returns-clause-good : goal.returns-clause-good
returns-clause-good c = good_settings c.self.inside.settings c.self.invariant.1
