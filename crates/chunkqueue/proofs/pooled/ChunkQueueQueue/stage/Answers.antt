use Rattle.chunkqueue.proofs.Staging.{OnOk-map}
use Rattle.chunkqueue.proofs.Queues.{pooled_lies, pooled_shows}
use Rattle.chunkqueue.proofs.pooled.ChunkQueueQueue.stage.Goals as goal

pub stage_front-requires-clause-lies : goal.stage_front-requires-clause-lies
stage_front-requires-clause-lies g c told = pooled_lies (g.F.Files.disk c.args.files.now) _ c.self.inside.chunks _ c.self.view_is c.self.invariant (c.requires.lies told)

pub returns-clause-shows : goal.returns-clause-shows
returns-clause-shows g c =
    OnOk-map c.stage_front.result
    (λ read told shown. pooled_shows (g.F.Files.disk c.args.files.now) c.args.self.now c.self.inside.chunks c.stage_front.new.chunks _ c.self.view_is c.self.invariant (c.requires.lies told) c.stage_front.ensures.rest (read told) shown)
    c.stage_front.ensures.bytes
