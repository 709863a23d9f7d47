use Rattle.std.proofs.Common.{None, refl, sym, subst}
use Rattle.lt_world.specs.Disk.{Disk}
use Rattle.server_model.specs.Planning.{CallsFor}
use Rattle.file_reply.specs.Refusals.{plain}
use Rattle.request_plan.specs.Lent.{lent}
use Rattle.request_plan.proofs.OpenedFiles.{file_calls, unopened_plans, sent}
use Rattle.request_plan.proofs.Words.{words_planned, words_of}
use Rattle.request_plan.proofs.opening.open.Goals as goal

pub returns-in-File-clause-plans : goal.returns-in-File-clause-plans
returns-in-File-clause-plans g c told site arrival target path before here current types served =
    let s = sent site arrival c.args.owner c.args.request.now before (g.F.Files.disk c.args.files.now) target path c.args.physical.now here (lent c.args.settings) current served
    c.args.media_type.now c.in-File.file.0 c.in-File.size c.in-File.time (g.F.Files.disk c.open.new.self) types (c.in-File.ensures.opens told) in
    c.answer_with.ensures.plans told site arrival c.args.owner.conn c.args.owner.request before s.bytes s.opened_is s.has_size s.plans

pub returns-in-Failed-clause-plans : goal.returns-in-Failed-clause-plans
returns-in-Failed-clause-plans g c told site arrival target path before here current types served =
    words_planned c.in_words.result (lent c.args.settings) (plain 500) site arrival c.args.owner.conn c.args.owner.request c.args.request.now before (g.F.Files.disk c.open.new.self)
    (words_of (lent c.args.settings) c.plain.result (plain 500) c.in_words.result c.plain.ensures c.in_words.ensures) refl
    (unopened_plans site arrival c.args.owner c.args.request.now before (g.F.Files.disk c.args.files.now) target path c.args.physical.now here (lent c.args.settings) current served (g.F.Files.disk c.open.new.self) (c.in-Failed.ensures.opens told))

pub returns-in-NoMemory-clause-plans : goal.returns-in-NoMemory-clause-plans
returns-in-NoMemory-clause-plans g c told site arrival target path before here current types served =
    subst (λ (d : Disk). CallsFor site arrival c.args.owner.conn c.args.owner.request c.args.request.now None before d) (sym (c.in-NoMemory.ensures.opens told))
    (file_calls site arrival c.args.owner c.args.request.now before (g.F.Files.disk c.args.files.now) target path c.args.physical.now here)
