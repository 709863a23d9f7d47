use Rattle.server_model.proofs.Owned.{ours_are, own_is, own-told, own-told_other}
use Rattle.server_model.proofs.laws.client_alone.Goals as goal

pub returns-clause-acts : goal.returns-clause-acts
returns-clause-acts c = own_is

pub returns-clause-gained : goal.returns-clause-gained
returns-clause-gained c = own-told

pub returns-clause-others : goal.returns-clause-others
returns-clause-others c = own-told_other

pub returns-clause-deeds : goal.returns-clause-deeds
returns-clause-deeds c = ours_are
