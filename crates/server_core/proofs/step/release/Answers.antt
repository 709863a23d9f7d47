use Rattle.server_core.proofs.Stepped.{open_as}
use Rattle.std.proofs.Common.{Some}
use Rattle.server_core.proofs.step.release.Goals as goal

pub release-requires : goal.release-requires
release-requires g c f = open_as (g.F.Files.disk c.args.files.now).table (Some c.in-Some.file.0) c.args.conn.held.file c.in-Some.ensures.file (c.requires.open f)
