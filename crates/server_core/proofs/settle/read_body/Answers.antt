use Rattle.std.proofs.Common.{length, Some, refl, sym, ap, ◌∙◌, arith}
use Rattle.lt_world.specs.declared.net.Ending.TheVariants as ending
use Rattle.server_model.specs.Held.{Held}
use Rattle.connection.specs.Stages.{stage_of}
use Rattle.request_plan.specs.Kept.{asked_of}
use Rattle.lt_bytes.specs.declared.memory.NoMemory.{NoMemory}
use Rattle.request_plan.specs.Lent.{came, wanted}
use Rattle.std.specs.Prelude.{ℕ, Result}
use Rattle.server_core.proofs.Advancing.{headed_heading, headed_wants, accepted_input}
use Rattle.server_core.proofs.Comparing.{compares_limit, compares_read, read_right}
use Rattle.server_core.proofs.Fresh.{fresh_right}
use Rattle.server_core.proofs.Settling.{body_limit, settles_site, settles_unread, body_idle, body_free, body_fits, body_read, body_then, body_goes, body_link, step_fits, step_link}
use Rattle.server_core.proofs.settle.read_body.Goals as goal

pub body_limit-requires : goal.body_limit-requires
body_limit-requires g c = record { right = fresh_right c.args.planner.now c.requires.fresh (came c.arrival.result) c.in-Some.request.now }

pub accept_body-requires-clause-heading : goal.accept_body-requires-clause-heading
accept_body-requires-clause-heading g c = headed_heading c.args.conn.now.held c.requires.heading

pub returns-in_default-body_limit-clause-settles : goal.returns-in_default-body_limit-clause-settles
returns-in_default-body_limit-clause-settles g c = settles_unread c.args.planner.now.site c.args.conn.now.held c.args.conn.now.held g.F.Files.tells (g.F.Files.disk c.args.files.now) (headed_wants c.args.conn.now.held c.requires.heading) refl refl

pub returns-in_default-accept_body-clause-settles : goal.returns-in_default-accept_body-clause-settles
returns-in_default-accept_body-clause-settles g c = settles_unread c.args.planner.now.site c.args.conn.now.held c.accept_body.new.self.held g.F.Files.tells (g.F.Files.disk c.args.files.now)
    (headed_wants c.args.conn.now.held c.requires.heading) (ap (λ (h : Held). h.link) c.in_default-accept_body.ensures.err) (ap (λ (h : Held). h.file) c.in_default-accept_body.ensures.err)

pub returns-in_default-accept_body-clause-link : goal.returns-in_default-accept_body-clause-link
returns-in_default-accept_body-clause-link g c = ap (λ (h : Held). h.link) c.in_default-accept_body.ensures.err

pub returns-in_default-advance-clause-settles : goal.returns-in_default-advance-clause-settles
returns-in_default-advance-clause-settles g c =
    body_then c.args.planner.now.site c.args.conn.now.held c.accept_body.new.self.held g.F.Files.tells (g.F.Files.disk c.args.files.now) c.in-Ok.limit (body_limit c.args.planner.now.site c.args.conn.now.held c.in-Ok.limit (came c.arrival.result) c.in-Some.request.now c.arrival.ensures.arrival c.in-Some.ensures.request c.in-Ok.ensures.limit) c.requires.heading c.requires.free c.in-Ok-accept_body.ensures.ok
    c.advance.new.self.held (g.F.Files.disk c.args.files.now) (Some ending.NoMemory)
    (settles_unread c.args.planner.now.site c.accept_body.new.self.held c.advance.new.self.held g.F.Files.tells (g.F.Files.disk c.args.files.now)
    c.in_default-advance.ensures.wants (ap (λ (h : Held). h.link) c.in_default-advance.ensures.err) (ap (λ (h : Held). h.file) c.in_default-advance.ensures.err))

pub returns-in_default-advance-clause-filled : goal.returns-in_default-advance-clause-filled
returns-in_default-advance-clause-filled g c =
    omega (arith, c.accept_body.ensures.filled, c.in_default-advance.ensures.filled, ap (λ (h : Held). length h.input) c.in-Ok-accept_body.ensures.ok, ap length (accepted_input c.args.conn.now.held c.in-Ok.limit))

pub returns-in_default-advance-clause-link : goal.returns-in_default-advance-clause-link
returns-in_default-advance-clause-link g c = ap (λ (h : Held). h.link) c.in_default-advance.ensures.err
    ∙ body_link c.args.planner.now.site c.args.conn.now.held c.accept_body.new.self.held g.F.Files.tells (g.F.Files.disk c.args.files.now) c.in-Ok.limit (body_limit c.args.planner.now.site c.args.conn.now.held c.in-Ok.limit (came c.arrival.result) c.in-Some.request.now c.arrival.ensures.arrival c.in-Some.ensures.request c.in-Ok.ensures.limit) c.requires.heading c.requires.free c.in-Ok-accept_body.ensures.ok

pub go_on-requires-clause-advanced : goal.go_on-requires-clause-advanced
go_on-requires-clause-advanced g c = record {
  before = c.accept_body.new.self.held;
  idle = body_idle c.args.planner.now.site c.args.conn.now.held c.accept_body.new.self.held g.F.Files.tells (g.F.Files.disk c.args.files.now) c.in-Ok.limit (body_limit c.args.planner.now.site c.args.conn.now.held c.in-Ok.limit (came c.arrival.result) c.in-Some.request.now c.arrival.ensures.arrival c.in-Some.ensures.request c.in-Ok.ensures.limit) c.requires.heading c.requires.free c.in-Ok-accept_body.ensures.ok;
  free = body_free c.args.planner.now.site c.args.conn.now.held c.accept_body.new.self.held g.F.Files.tells (g.F.Files.disk c.args.files.now) c.in-Ok.limit (body_limit c.args.planner.now.site c.args.conn.now.held c.in-Ok.limit (came c.arrival.result) c.in-Some.request.now c.arrival.ensures.arrival c.in-Some.ensures.request c.in-Ok.ensures.limit) c.requires.heading c.requires.free c.in-Ok-accept_body.ensures.ok;
  is = c.in-Ok-advance.ensures.ok;
}

pub go_on-requires-clause-read : goal.go_on-requires-clause-read
go_on-requires-clause-read g c head =
    body_read c.args.planner.now.site c.args.conn.now.held c.accept_body.new.self.held g.F.Files.tells (g.F.Files.disk c.args.files.now) c.in-Ok.limit (body_limit c.args.planner.now.site c.args.conn.now.held c.in-Ok.limit (came c.arrival.result) c.in-Some.request.now c.arrival.ensures.arrival c.in-Some.ensures.request c.in-Ok.ensures.limit) c.requires.heading c.requires.free c.in-Ok-accept_body.ensures.ok
    (ap stage_of (sym c.in-Ok-advance.ensures.ok) ∙ sym c.in-Ok-advance.ensures.stage ∙ head)

pub go_on-requires-clause-fits : goal.go_on-requires-clause-fits
go_on-requires-clause-fits g c =
    step_fits c.args.planner.now.site c.accept_body.new.self.held c.advance.new.self.held g.F.Files.tells (g.F.Files.disk c.args.files.now)
    (body_free c.args.planner.now.site c.args.conn.now.held c.accept_body.new.self.held g.F.Files.tells (g.F.Files.disk c.args.files.now) c.in-Ok.limit (body_limit c.args.planner.now.site c.args.conn.now.held c.in-Ok.limit (came c.arrival.result) c.in-Some.request.now c.arrival.ensures.arrival c.in-Some.ensures.request c.in-Ok.ensures.limit) c.requires.heading c.requires.free c.in-Ok-accept_body.ensures.ok)
    c.in-Ok-advance.ensures.ok
    (body_fits c.args.planner.now.site c.args.conn.now.held c.accept_body.new.self.held g.F.Files.tells (g.F.Files.disk c.args.files.now) c.in-Ok.limit (body_limit c.args.planner.now.site c.args.conn.now.held c.in-Ok.limit (came c.arrival.result) c.in-Some.request.now c.arrival.ensures.arrival c.in-Some.ensures.request c.in-Ok.ensures.limit) c.requires.heading c.requires.free c.in-Ok-accept_body.ensures.ok c.requires.fits)

pub go_on-requires-clause-right : goal.go_on-requires-clause-right
go_on-requires-clause-right g c = read_right c.args.planner.now.site c.args.conn.now.held c.accept_body.new.self.held c.advance.new.self.held (came c.arrival.result) c.in-Some.request.now c.in-Ok.limit c.arrival.ensures.arrival c.in-Some.ensures.request c.requires.heading c.in-Ok.ensures.limit c.in-Ok-accept_body.ensures.ok c.in-Ok-advance.ensures.ok c.body_limit.new.self c.body_limit.ensures.right

pub returns-clause-settles : goal.returns-clause-settles
returns-clause-settles g c =
    body_goes c.args.planner.now.site c.args.conn.now.held c.accept_body.new.self.held g.F.Files.tells (g.F.Files.disk c.args.files.now) c.in-Ok.limit (body_limit c.args.planner.now.site c.args.conn.now.held c.in-Ok.limit (came c.arrival.result) c.in-Some.request.now c.arrival.ensures.arrival c.in-Some.ensures.request c.in-Ok.ensures.limit) c.requires.heading c.requires.free c.in-Ok-accept_body.ensures.ok
    c.advance.new.self.held c.go_on.new.conn.held (g.F.Files.disk c.go_on.new.files) c.go_on.result c.in-Ok-advance.ensures.ok
    (settles_site c.body_limit.new.self.site c.args.planner.now.site c.body_limit.ensures.site _ c.advance.new.self.held c.go_on.new.conn.held g.F.Files.tells (g.F.Files.disk c.args.files.now) (g.F.Files.disk c.go_on.new.files) c.go_on.result c.go_on.ensures.settles)

pub returns-clause-link : goal.returns-clause-link
returns-clause-link g c = c.go_on.ensures.link
    ∙ step_link c.args.planner.now.site c.accept_body.new.self.held c.advance.new.self.held g.F.Files.tells (g.F.Files.disk c.args.files.now)
    (body_free c.args.planner.now.site c.args.conn.now.held c.accept_body.new.self.held g.F.Files.tells (g.F.Files.disk c.args.files.now) c.in-Ok.limit (body_limit c.args.planner.now.site c.args.conn.now.held c.in-Ok.limit (came c.arrival.result) c.in-Some.request.now c.arrival.ensures.arrival c.in-Some.ensures.request c.in-Ok.ensures.limit) c.requires.heading c.requires.free c.in-Ok-accept_body.ensures.ok)
    c.in-Ok-advance.ensures.ok
    ∙ body_link c.args.planner.now.site c.args.conn.now.held c.accept_body.new.self.held g.F.Files.tells (g.F.Files.disk c.args.files.now) c.in-Ok.limit (body_limit c.args.planner.now.site c.args.conn.now.held c.in-Ok.limit (came c.arrival.result) c.in-Some.request.now c.arrival.ensures.arrival c.in-Some.ensures.request c.in-Ok.ensures.limit) c.requires.heading c.requires.free c.in-Ok-accept_body.ensures.ok

pub returns-clause-filled : goal.returns-clause-filled
returns-clause-filled g c =
    omega (arith, c.accept_body.ensures.filled, c.advance.ensures.filled, c.go_on.ensures.filled, ap (λ (h : Held). length h.input) c.in-Ok-accept_body.ensures.ok, ap length (accepted_input c.args.conn.now.held c.in-Ok.limit))

pub returns-clause-compares : goal.returns-clause-compares
returns-clause-compares g c = compares_read c.args.planner.now.site c.args.conn.now.held c.accept_body.new.self.held c.advance.new.self.held (came c.arrival.result) c.in-Some.request.now c.in-Ok.limit c.arrival.ensures.arrival c.in-Some.ensures.request c.requires.heading c.in-Ok.ensures.limit c.in-Ok-accept_body.ensures.ok c.in-Ok-advance.ensures.ok c.body_limit.new.self.site c.body_limit.ensures.site c.args.steps.now c.body_limit.new.steps c.go_on.new.steps (asked_of c.args.planner.now) (asked_of c.body_limit.new.self) _ (omega (arith, c.body_limit.ensures.steps, ap (λ (r : Result ℕ NoMemory). wanted r) c.in-Ok.is)) c.go_on.ensures.compares
