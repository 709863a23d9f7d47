use Rattle.std.proofs.Common.{length, ◌∙◌}
use Rattle.server_core.specs.Steps.{seen_as}
use Rattle.server_core.proofs.Stepped.{read_due, write_due}
use Rattle.server_core.proofs.step.step_for.Goals as goal

pub returns-in-Reading-clause-goes : goal.returns-in-Reading-clause-goes
returns-in-Reading-clause-goes g c later more same =
    read_due c.args.ready c.in-Reading.is (length c.args.store.now.free) c.args.conn.now.held.link (seen_as (g.F.Files.disk c.args.files.now) (g.F.Files.faults c.args.files.now) (g.F.Files.reads c.args.files.now)) later c.args.planner.now.site c.args.conn.now.held c.read_for.new.conn.held g.N.Net.tells g.F.Files.tells
    (g.F.Files.disk c.args.files.now) (g.F.Files.disk c.read_for.new.files) (g.N.Net.trace c.args.net.now) (g.N.Net.trace c.read_for.new.net) c.read_for.result (same ∙ c.read_for.ensures.reads) c.read_for.ensures.goes

pub returns-in-Writing-clause-goes : goal.returns-in-Writing-clause-goes
returns-in-Writing-clause-goes g c later more same =
    write_due c.args.ready c.in-Writing.is (length c.args.store.now.free) c.args.conn.now.held.link (seen_as (g.F.Files.disk c.args.files.now) (g.F.Files.faults c.args.files.now) (g.F.Files.reads c.args.files.now)) later c.args.planner.now.site c.args.conn.now.held c.write_for.new.conn.held g.N.Net.tells g.F.Files.tells
    (g.F.Files.disk c.args.files.now) (g.F.Files.disk c.write_for.new.files) (g.N.Net.trace c.args.net.now) (g.N.Net.trace c.write_for.new.net) c.write_for.result (c.write_for.ensures.goes later more same)
