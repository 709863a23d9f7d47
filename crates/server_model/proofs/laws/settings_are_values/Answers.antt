use Rattle.server_model.proofs.Valued.{settings_on_is, valued, requests_least, requests_on, body_within, body_on}
use Rattle.server_model.proofs.laws.settings_are_values.Goals as goal

pub returns-clause-values : goal.returns-clause-values
returns-clause-values c = valued

pub returns-clause-requests : goal.returns-clause-requests
returns-clause-requests c = requests_least

pub returns-clause-body : goal.returns-clause-body
returns-clause-body c = body_within

pub returns-clause-anew : goal.returns-clause-anew
returns-clause-anew c = settings_on_is

pub returns-clause-requests_anew : goal.returns-clause-requests_anew
returns-clause-requests_anew c = requests_on

pub returns-clause-body_anew : goal.returns-clause-body_anew
returns-clause-body_anew c = body_on
