use Rattle.connection.proofs.Rests.{held_short}
use Rattle.connection.proofs.Wanting.{taking_up_wants}
use Rattle.connection.proofs.connection.Conn.advance.Goals as goal

pub returns-in-Some-clause-within : goal.returns-in-Some-clause-within
returns-in-Some-clause-within c = held_short c.self.inside c.args.self.now c.self.invariant c.self.view_is

pub returns-then-not-feeds-clause-within : goal.returns-then-not-feeds-clause-within
returns-then-not-feeds-clause-within c = held_short c.self.inside c.args.self.now c.self.invariant c.self.view_is

pub returns-in_err-feed-clause-within : goal.returns-in_err-feed-clause-within
returns-in_err-feed-clause-within c = held_short c.self.inside c.args.self.now c.self.invariant c.self.view_is

pub returns-clause-within : goal.returns-clause-within
returns-clause-within c = held_short c.self.inside c.args.self.now c.self.invariant c.self.view_is

pub returns-in-Some-clause-wants : goal.returns-in-Some-clause-wants
returns-in-Some-clause-wants c = taking_up_wants c.take_up.result c.args.self.now.held c.next_number.result c.in-Some.number c.next_number.ensures c.in-Some.is c.take_up.ensures.wants
