use Rattle.std.proofs.Common.{ap}
use Rattle.connection.specs.Connection.{Connected}
use Rattle.connection.proofs.Buffers.{third_kept}
use Rattle.connection.proofs.connection.Conn.wrote.Goals as goal

pub returns-then-len-gt0-clause-kept : goal.returns-then-len-gt0-clause-kept
returns-then-len-gt0-clause-kept c =
    third_kept c.args.store.now c.advance.new.store c.args.self.now.numbers c.self.inside.input.numbers c.self.inside.body.numbers c.self.inside.output.numbers c.advance.new.self.numbers (ap (λ (x : Connected). x.numbers) c.self.view_is) c.advance.ensures.kept

pub returns-clause-kept : goal.returns-clause-kept
returns-clause-kept c =
    third_kept c.args.store.now c.advance.new.store c.args.self.now.numbers c.self.inside.input.numbers c.self.inside.body.numbers c.self.inside.output.numbers c.advance.new.self.numbers (ap (λ (x : Connected). x.numbers) c.self.view_is) c.advance.ensures.kept
