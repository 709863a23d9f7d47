use Rattle.chunkqueue.proofs.Staging.{first_lies, shows_staged, OnOk-map}
use Rattle.chunkqueue.proofs.plain.PlainQueueQueue.stage.Goals as goal

pub stage-requires-clause-lies : goal.stage-requires-clause-lies
stage-requires-clause-lies g c told = first_lies (g.F.Files.disk c.args.files.now) _ c.self.inside.chain c.self.view_is c.self.invariant.held (c.requires.lies told)

pub returns-clause-shows : goal.returns-clause-shows
returns-clause-shows g c =
    OnOk-map c.stage.result
    (λ read told shown. shows_staged (g.F.Files.disk c.args.files.now) c.args.self.now c.self.inside.chain c.stage.new.self c.self.view_is c.self.invariant.held (c.requires.lies told) c.stage.ensures.rest (read told) shown)
    c.stage.ensures.bytes
