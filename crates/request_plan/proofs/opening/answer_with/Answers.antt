use Rattle.std.proofs.Common.{sym, subst}
use Rattle.file_reply.specs.Answers.{IsWithin}
use Rattle.file_reply.specs.declared.answers.Answer.{Answer}
use Rattle.file_reply.proofs.Parts.{answer_within}
use Rattle.server_model.proofs.Planned.{release_calls}
use Rattle.request_plan.proofs.opening.answer_with.Goals as goal

pub send-requires-clause-within : goal.send-requires-clause-within
send-requires-clause-within g c = subst (λ (said : Answer). IsWithin said.content c.args.size) (sym c.in-Ok.ensures) (answer_within c.args.media_type.now c.args.request.now.method c.args.request.now.fields c.args.size c.args.time)

-- memory is wanted, and the file is given back
pub returns-in-Err-clause-plans : goal.returns-in-Err-clause-plans
returns-in-Err-clause-plans g c told site arrival client k before bytes opened size plans =
    release_calls site client k c.args.request.now c.args.file.0 before (g.F.Files.disk c.args.files.now) (g.F.Files.disk c.release.new.self) (c.release.ensures.disk told) arrival plans.calls
