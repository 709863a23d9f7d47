use Rattle.std.proofs.Common.{Some, drop}
use Rattle.server_model.specs.Steps.{has_no_items}
use Rattle.server_core.proofs.Stepped.{open_done}
use Rattle.server_core.proofs.step.wrote.Goals as goal

pub release-requires : goal.release-requires
release-requires g c f = open_done (g.F.Files.disk c.args.files.now).table (has_no_items (drop c.args.n c.args.conn.now.held.owed)) (Some c.in-Some.file.0) c.args.conn.now.held.file c.in-Some.ensures.file (c.requires.open f)
