use Rattle.server_model.proofs.Bodies.{body_none, body_stated, body_short, body_large, content_within}
use Rattle.server_model.proofs.laws.bodies_end.Goals as goal

pub returns-clause-none : goal.returns-clause-none
returns-clause-none c limits bytes rest head front = body_none limits bytes rest head front

pub returns-clause-stated : goal.returns-clause-stated
returns-clause-stated c limits bytes rest head n front = body_stated limits bytes rest head front n

pub returns-clause-short : goal.returns-clause-short
returns-clause-short c limits bytes rest head n front = body_short limits bytes rest head front n

pub returns-clause-large : goal.returns-clause-large
returns-clause-large c limits bytes rest head n below front = body_large limits bytes rest head front n below

pub returns-clause-within : goal.returns-clause-within
returns-clause-within c = content_within
