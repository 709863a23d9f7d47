use Rattle.std.proofs.Common.{refl}
use Rattle.server_model.proofs.Persisting.{last_is, passed_below, passed_unreached}
use Rattle.server_model.proofs.laws.connections_end.Goals as goal

pub returns-clause-asked : goal.returns-clause-asked
returns-clause-asked c = last_is

pub returns-clause-declined : goal.returns-clause-declined
returns-clause-declined c world k status head = refl

pub returns-clause-refused : goal.returns-clause-refused
returns-clause-refused c world k status = refl

pub returns-clause-limit : goal.returns-clause-limit
returns-clause-limit c world input before k most some within = passed_below world most within some input k before

pub returns-clause-unreached : goal.returns-clause-unreached
returns-clause-unreached c = passed_unreached
