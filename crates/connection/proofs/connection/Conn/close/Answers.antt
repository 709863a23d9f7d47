use Rattle.std.proofs.Common.{ap}
use Rattle.connection.specs.Connection.{Connected}
use Rattle.connection.proofs.Buffers.{closed_kept}
use Rattle.connection.proofs.connection.Conn.close.Goals as goal

pub returns-clause-kept : goal.returns-clause-kept
returns-clause-kept c =
    closed_kept c.args.store.now c.close.new.store c.close-2.new.store c.close-3.new.store c.args.self.numbers c.self.inside.input.numbers c.self.inside.body.numbers c.self.inside.output.numbers (ap (λ (x : Connected). x.numbers) c.self.view_is)
    c.close.ensures.kept c.close-2.ensures.kept c.close-3.ensures.kept
