use Rattle.std.proofs.Common.{Some, refl, ◌∙◌}
use Rattle.lt_world.specs.declared.net.Ending.TheVariants as ending
use Rattle.server_core.specs.Sending.{spelled_for, Sent}
use Rattle.server_core.proofs.Settling.{settles_sent}
use Rattle.server_core.proofs.reply.serve.Goals as goal

pub returns-in_default-clause-settles : goal.returns-in_default-clause-settles
returns-in_default-clause-settles g c before settings head reply sends here plans = settles_sent c.args.planner.now.site c.args.conn.now.held c.args.conn.now.held (Some ending.NoMemory) g.F.Files.tells before (g.F.Files.disk c.args.files.now) (g.F.Files.disk c.give_back.new.files) head settings c.args.form c.args.tag.now
    (spelled_for c.args.content c.args.tag.now c.args.form c.args.status c.args.fields.now) c.args.content c.args.status c.args.fields.now c.requires.file reply sends here plans refl (Sent.GivenBack refl refl c.give_back.ensures.drops)

pub returns-clause-settles : goal.returns-clause-settles
returns-clause-settles g c before settings head reply sends here plans = settles_sent c.args.planner.now.site c.args.conn.now.held c.send.new.conn.held c.send.result g.F.Files.tells before (g.F.Files.disk c.args.files.now) (g.F.Files.disk c.send.new.files) head settings c.args.form c.args.tag.now
    c.bytes.result.now c.args.content c.args.status c.args.fields.now c.requires.file reply sends here plans (c.bytes.ensures.value ∙ c.in-Ok.ensures.spelled) c.send.ensures.sent
