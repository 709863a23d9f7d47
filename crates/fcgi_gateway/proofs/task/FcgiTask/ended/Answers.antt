use Rattle.std.proofs.Common.{ap, refl}
use Rattle.cgi_text.specs.Attempts.{with_end}
use Rattle.fcgi_gateway.specs.Task.{Task}
use Rattle.fcgi_gateway.proofs.OverLemmas.{ended_at}
use Rattle.fcgi_gateway.proofs.task.FcgiTask.ended.Goals as goal

pub returns-clause-stands : goal.returns-clause-stands
returns-clause-stands c = λ asks e is.
    c.settle.ensures.stands asks (with_end e) (ended_at asks e c.args.self.now _ is (record {
      unsent = ap (λ (x : Task). x.unsent) c.self.view_is;
      begun = ap (λ (x : Task). x.begun) c.self.view_is;
      over = refl;
      stands = ap (λ (x : Task). x.stands) c.self.view_is;
      stdout = ap (λ (x : Task). x.stdout) c.self.view_is;
      heard = ap (λ (x : Task). x.heard) c.self.view_is;
    }))
