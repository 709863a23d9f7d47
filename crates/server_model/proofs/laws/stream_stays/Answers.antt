use Rattle.server_model.proofs.Growing.{stream_act, reply_other, planned_stays}
use Rattle.server_model.proofs.laws.stream_stays.Goals as goal

pub returns-clause-acts : goal.returns-clause-acts
returns-clause-acts c = stream_act

pub returns-clause-calls : goal.returns-clause-calls
returns-clause-calls c world what k j failed request apart = reply_other world what k j failed apart request

pub returns-clause-planned : goal.returns-clause-planned
returns-clause-planned c = planned_stays
