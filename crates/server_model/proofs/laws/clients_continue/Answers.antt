use Rattle.std.proofs.Common.{refl}
use Rattle.server_model.proofs.Bodies.{continue_first, continue_asked, continue_unasked, continue_old, continue_bodiless, continue_large}
use Rattle.server_model.proofs.Growing.{reply_grows}
use Rattle.server_model.proofs.laws.clients_continue.Goals as goal

pub returns-clause-first : goal.returns-clause-first
returns-clause-first c world k bytes rest head front = continue_first world bytes rest head front k

pub returns-clause-waits : goal.returns-clause-waits
returns-clause-waits c world k head = refl

pub returns-clause-asked : goal.returns-clause-asked
returns-clause-asked c = continue_asked

pub returns-clause-unasked : goal.returns-clause-unasked
returns-clause-unasked c = continue_unasked

pub returns-clause-bodiless : goal.returns-clause-bodiless
returns-clause-bodiless c = continue_bodiless

pub returns-clause-large : goal.returns-clause-large
returns-clause-large c = continue_large

pub returns-clause-stays : goal.returns-clause-stays
returns-clause-stays c world k bytes more = reply_grows bytes more world k

pub returns-clause-old : goal.returns-clause-old
returns-clause-old c = continue_old
