use Rattle.std.proofs.Common.{◌+◌, ◌≤◌, [], Some, length, subst, arith}
use Rattle.file_reply.specs.declared.answers.Content as of_file
use Rattle.file_reply.specs.Answers.{IsWithin}
use Rattle.server_model.specs.Plan.{answered_with}
use Rattle.server_model.proofs.Planned.{released_plans}
use Rattle.request_plan.specs.Lent.{lent}
use Rattle.request_plan.proofs.Sending.{part_planned, answer_part, answer_phrase}
use Rattle.request_plan.proofs.Words.{words_planned}
use Rattle.request_plan.proofs.opening.send.Goals as goal

-- no byte of the file is sent, and it is given back
pub returns-in-Phrase-clause-plans : goal.returns-in-Phrase-clause-plans
returns-in-Phrase-clause-plans g c told site arrival client k before bytes opened size plans =
    words_planned c.in_words.result (lent c.args.settings) c.args.said site arrival client k c.args.request.now before (g.F.Files.disk c.release.new.self) c.in_words.ensures c.in-Phrase.is
    (released_plans site client k c.args.request.now c.args.file.0 before (g.F.Files.disk c.args.files.now) (g.F.Files.disk c.release.new.self) (c.release.ensures.disk told) (answered_with (lent c.args.settings) c.args.said []) arrival
    (answer_phrase c.args.said bytes (lent c.args.settings) site arrival client k c.args.request.now (Some c.args.file.0) before (g.F.Files.disk c.args.files.now) c.in-Phrase.is plans))

pub returns-in-Part-clause-plans : goal.returns-in-Part-clause-plans
returns-in-Part-clause-plans g c told site arrival client k before bytes opened size plans =
    let lies : c.in-Part.start + c.in-Part.len ≤ c.args.size = subst (λ (x : of_file.Content). IsWithin x c.args.size) c.in-Part.is c.requires.within in
    let within : c.in-Part.start + c.in-Part.len ≤ length bytes = omega (arith, lies, size) in
    part_planned c.part-content.result c.args.file.0 c.in-Part.start c.in-Part.len bytes (lent c.args.settings) c.args.said.status c.args.said.fields site arrival client k c.args.request.now before (g.F.Files.disk c.args.files.now) (g.F.Files.disk c.part-content.new.files)
    (c.part-content.ensures.keeps told) within opened
    (answer_part c.args.said c.in-Part.start c.in-Part.len bytes (lent c.args.settings) site arrival client k c.args.request.now (Some c.args.file.0) before (g.F.Files.disk c.args.files.now) c.in-Part.is plans)
