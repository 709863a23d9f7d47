use Rattle.std.proofs.Common.{ap}
use Rattle.fcgi_gateway.specs.Task.{Task}
use Rattle.fcgi_gateway.proofs.Buffers.{closed_kept}
use Rattle.fcgi_gateway.proofs.task.FcgiTask.close.Goals as goal

pub returns-clause-kept : goal.returns-clause-kept
returns-clause-kept c =
    closed_kept c.args.store.now c.close.new.store c.close-2.new.store c.args.self.numbers c.self.inside.body.numbers c.self.inside.out.numbers (ap (λ (x : Task). x.numbers) c.self.view_is) c.close.ensures.kept c.close-2.ensures.kept
