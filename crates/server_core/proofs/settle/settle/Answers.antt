use Rattle.std.proofs.Common.{sym, ap, ◌∙◌, subst}
use Rattle.server_model.specs.Held.{Held, arrival_of}
use Rattle.server_core.specs.Steps.{IsFree}
use Rattle.server_core.proofs.Advancing.{heads_wants, advanced_free}
use Rattle.server_core.proofs.Comparing.{compares_body, compares_on}
use Rattle.server_core.proofs.Fresh.{fresh_right, fresh_few}
use Rattle.server_core.proofs.Settling.{settles_unlooked, settles_site, step_goes, step_reads, step_fits, step_link}
use Rattle.server_core.proofs.settle.settle.Goals as goal

pub returns-in_default-clause-settles : goal.returns-in_default-clause-settles
returns-in_default-clause-settles g c = settles_unlooked c.args.planner.now.site c.args.conn.now.held c.advance.new.self.held g.F.Files.tells (g.F.Files.disk c.args.files.now)
    (ap (λ (h : Held). h.link) c.in_default.ensures.err) (ap (λ (h : Held). h.file) c.in_default.ensures.err) c.in_default.ensures.wants

pub returns-in_default-clause-link : goal.returns-in_default-clause-link
returns-in_default-clause-link g c = ap (λ (h : Held). h.link) c.in_default.ensures.err

pub read_body-requires-clause-heading : goal.read_body-requires-clause-heading
read_body-requires-clause-heading g c = sym c.in-Ok.ensures.stage ∙ c.in-Head.is

pub read_body-requires-clause-free : goal.read_body-requires-clause-free
read_body-requires-clause-free g c = subst IsFree (sym c.in-Ok.ensures.ok) (advanced_free c.args.conn.now.held c.requires.free)

pub read_body-requires-clause-fits : goal.read_body-requires-clause-fits
read_body-requires-clause-fits g c = step_fits c.args.planner.now.site c.args.conn.now.held c.advance.new.self.held g.F.Files.tells (g.F.Files.disk c.args.files.now) c.requires.free c.in-Ok.ensures.ok c.requires.fits

pub returns-in-Head-clause-settles : goal.returns-in-Head-clause-settles
returns-in-Head-clause-settles g c = step_reads c.args.planner.now.site c.args.conn.now.held c.advance.new.self.held g.F.Files.tells (g.F.Files.disk c.args.files.now) c.requires.free c.in-Ok.ensures.ok
    (heads_wants c.args.conn.now.held c.advance.new.self.held c.in-Ok.ensures.ok c.requires.idle (sym c.in-Ok.ensures.stage ∙ c.in-Head.is))
    c.read_body.new.conn.held (g.F.Files.disk c.read_body.new.files) c.read_body.result
    (settles_site c.begin.new.self.site c.args.planner.now.site c.begin.ensures.site _ c.advance.new.self.held c.read_body.new.conn.held g.F.Files.tells (g.F.Files.disk c.args.files.now) (g.F.Files.disk c.read_body.new.files) c.read_body.result c.read_body.ensures.settles)

pub returns-in-Head-clause-link : goal.returns-in-Head-clause-link
returns-in-Head-clause-link g c = c.read_body.ensures.link ∙ step_link c.args.planner.now.site c.args.conn.now.held c.advance.new.self.held g.F.Files.tells (g.F.Files.disk c.args.files.now) c.requires.free c.in-Ok.ensures.ok

pub returns-in-Head-clause-compares : goal.returns-in-Head-clause-compares
returns-in-Head-clause-compares g c = compares_body c.begin.new.self.site c.args.planner.now.site c.begin.ensures.site c.advance.new.self.held c.args.conn.now.held c.in-Ok.ensures.ok c.args.steps.now c.read_body.new.steps _ c.read_body.ensures.compares

pub go_on-requires-clause-advanced : goal.go_on-requires-clause-advanced
go_on-requires-clause-advanced g c = record { before = c.args.conn.now.held; idle = c.requires.idle; free = c.requires.free; is = c.in-Ok.ensures.ok }

pub go_on-requires-clause-read : goal.go_on-requires-clause-read
go_on-requires-clause-read g c = c.in_default-stage.not-Head

pub go_on-requires-clause-fits : goal.go_on-requires-clause-fits
go_on-requires-clause-fits g c = step_fits c.args.planner.now.site c.args.conn.now.held c.advance.new.self.held g.F.Files.tells (g.F.Files.disk c.args.files.now) c.requires.free c.in-Ok.ensures.ok c.requires.fits

pub go_on-requires-clause-right : goal.go_on-requires-clause-right
go_on-requires-clause-right g c head at = fresh_right c.begin.new.self c.begin.ensures.fresh (arrival_of c.advance.new.self.held) head

pub go_on-requires-clause-few : goal.go_on-requires-clause-few
go_on-requires-clause-few g c = fresh_few c.begin.new.self c.begin.ensures.fresh

pub returns-in_default-stage-clause-settles : goal.returns-in_default-stage-clause-settles
returns-in_default-stage-clause-settles g c = step_goes c.args.planner.now.site c.args.conn.now.held c.advance.new.self.held g.F.Files.tells (g.F.Files.disk c.args.files.now) c.requires.free c.in-Ok.ensures.ok c.requires.idle
    c.go_on.new.conn.held (g.F.Files.disk c.go_on.new.files) c.go_on.result
    (settles_site c.begin.new.self.site c.args.planner.now.site c.begin.ensures.site _ c.advance.new.self.held c.go_on.new.conn.held g.F.Files.tells (g.F.Files.disk c.args.files.now) (g.F.Files.disk c.go_on.new.files) c.go_on.result c.go_on.ensures.settles)

pub returns-in_default-stage-clause-link : goal.returns-in_default-stage-clause-link
returns-in_default-stage-clause-link g c = c.go_on.ensures.link ∙ step_link c.args.planner.now.site c.args.conn.now.held c.advance.new.self.held g.F.Files.tells (g.F.Files.disk c.args.files.now) c.requires.free c.in-Ok.ensures.ok

pub returns-in_default-stage-clause-compares : goal.returns-in_default-stage-clause-compares
returns-in_default-stage-clause-compares g c = compares_on c.begin.new.self.site c.args.planner.now.site c.begin.ensures.site c.advance.new.self.held c.args.conn.now.held c.in-Ok.ensures.ok c.args.steps.now c.go_on.new.steps _ _ (λ e. c.in_default-stage.not-Head (c.in-Ok.ensures.stage ∙ e)) c.go_on.ensures.compares
