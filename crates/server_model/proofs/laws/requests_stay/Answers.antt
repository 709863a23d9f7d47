use Rattle.std.proofs.Common.{ap}
use Rattle.server_model.specs.Request.{is_complete}
use Rattle.server_model.proofs.Requests.{complete_grows, rest_grows, declined_grows, refused_grows, open_keeps}
use Rattle.server_model.proofs.laws.requests_stay.Goals as goal

pub returns-clause-complete : goal.returns-clause-complete
returns-clause-complete c limits bytes more head content is = (complete_grows limits bytes more head content is, rest_grows limits bytes more (ap is_complete is))

pub returns-clause-declined : goal.returns-clause-declined
returns-clause-declined c = declined_grows

pub returns-clause-refused : goal.returns-clause-refused
returns-clause-refused c = refused_grows

pub returns-clause-open : goal.returns-clause-open
returns-clause-open c = open_keeps
