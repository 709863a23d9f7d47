use Rattle.cgi_text.specs.Attempts.{with_input}
use Rattle.fcgi_gateway.proofs.task.FcgiTask.got.Goals as goal

pub returns-in-Ok-clause-stands : goal.returns-in-Ok-clause-stands
returns-in-Ok-clause-stands c = λ asks e is. c.settle.ensures.stands asks (with_input c.args.bytes.now e) (c.in-Ok.ensures.stands asks e is)
