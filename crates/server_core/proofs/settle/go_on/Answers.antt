use Rattle.std.proofs.Common.{Some, refl, sym, ap, ◌∙◌}
use Rattle.connection.specs.Connection.{head_at}
use Rattle.connection.specs.Stages.{is_asking}
use Rattle.request_plan.specs.Form.{refused_form}
use Rattle.server_model.specs.Held.{arrival_of}
use Rattle.server_model.specs.Settings.{settings_at}
use Rattle.server_core.proofs.Advancing.{step_waits, step_writes, step_ends, step_free, step_none, refused_head, refused_asks, whole_asks}
use Rattle.server_core.proofs.Comparing.{compares_none, compares_refused}
use Rattle.server_core.proofs.Settling.{goes_rests, goes_finishes, goes_answers, settles_refused, refused_given}
use Rattle.server_core.proofs.settle.go_on.Goals as goal

pub returns-in-Waiting-clause-settles : goal.returns-in-Waiting-clause-settles
returns-in-Waiting-clause-settles g c = goes_rests (is_asking c.args.conn.now.held.stage) c.args.planner.now.site c.args.conn.now.held g.F.Files.tells (g.F.Files.disk c.args.files.now) c.requires.fits
    (step_waits c.args.conn.now.held c.requires.advanced (sym c.requires.stage ∙ c.in-Waiting.is))

pub returns-in-Waiting-clause-waits : goal.returns-in-Waiting-clause-waits
returns-in-Waiting-clause-waits g c = ((step_waits c.args.conn.now.held c.requires.advanced (sym c.requires.stage ∙ c.in-Waiting.is)).0, step_free c.args.conn.now.held c.requires.advanced)

pub returns-in-Writing-clause-settles : goal.returns-in-Writing-clause-settles
returns-in-Writing-clause-settles g c = goes_rests (is_asking c.args.conn.now.held.stage) c.args.planner.now.site c.args.conn.now.held g.F.Files.tells (g.F.Files.disk c.args.files.now) c.requires.fits
    (step_writes c.args.conn.now.held c.requires.advanced (sym c.requires.stage ∙ c.in-Writing.is))

pub returns-in-Writing-clause-waits : goal.returns-in-Writing-clause-waits
returns-in-Writing-clause-waits g c = ((step_writes c.args.conn.now.held c.requires.advanced (sym c.requires.stage ∙ c.in-Writing.is)).0, step_free c.args.conn.now.held c.requires.advanced)

pub returns-in-Head-clause-settles : goal.returns-in-Head-clause-settles
returns-in-Head-clause-settles g c = absurd (c.requires.read c.in-Head.is)

pub returns-in-Head-clause-waits : goal.returns-in-Head-clause-waits
returns-in-Head-clause-waits g c = absurd (c.requires.read c.in-Head.is)

pub returns-in-Finished-clause-settles : goal.returns-in-Finished-clause-settles
returns-in-Finished-clause-settles g c = goes_finishes (is_asking c.args.conn.now.held.stage) c.args.planner.now.site c.args.conn.now.held g.F.Files.tells (g.F.Files.disk c.args.files.now) c.requires.advanced
    (step_ends c.args.conn.now.held c.requires.advanced (sym c.requires.stage ∙ c.in-Finished.is))

pub decline-requires-clause-file : goal.decline-requires-clause-file
decline-requires-clause-file g c = step_none c.args.conn.now.held c.requires.advanced (refused_asks c.args.conn.now.held c.in-Refused.status (sym c.requires.stage ∙ c.in-Refused.is))

pub decline-requires-clause-refused : goal.decline-requires-clause-refused
decline-requires-clause-refused g c = sym c.requires.stage ∙ c.in-Refused.is

pub returns-in-Refused-clause-settles : goal.returns-in-Refused-clause-settles
returns-in-Refused-clause-settles g c =
    let is = sym c.requires.stage ∙ c.in-Refused.is in
    let asks = refused_asks c.args.conn.now.held c.in-Refused.status is in
    goes_answers (is_asking c.args.conn.now.held.stage) c.args.planner.now.site c.args.conn.now.held g.F.Files.tells (g.F.Files.disk c.args.files.now) c.decline.new.conn.held (g.F.Files.disk c.args.files.now) c.decline.result asks
    (settles_refused c.args.planner.now.site c.args.conn.now.held g.F.Files.tells (g.F.Files.disk c.args.files.now) (step_none c.args.conn.now.held c.requires.advanced asks) c.requires.fits c.in-Refused.status (settings_at c.args.planner.now.site (Some (arrival_of c.args.conn.now.held)) (head_at c.args.conn.now.held.stage)).tag (refused_form (head_at c.args.conn.now.held.stage)) c.decline.new.conn.held c.decline.result
    (refused_head c.args.conn.now.held c.in-Refused.status is) refl refl (refused_given c.args.conn.now.held c.decline.new.conn.held c.decline.result _ (head_at c.args.conn.now.held.stage) c.in-Refused.status c.decline.ensures.given))

pub returns-in-Refused-clause-compares : goal.returns-in-Refused-clause-compares
returns-in-Refused-clause-compares g c = compares_refused c.args.planner.now.site _ c.args.steps.now c.decline.new.steps _ _ c.decline.ensures.compares

pub respond-requires-clause-whole : goal.respond-requires-clause-whole
respond-requires-clause-whole g c = sym c.requires.stage ∙ c.in-Whole.is

pub respond-requires-clause-file : goal.respond-requires-clause-file
respond-requires-clause-file g c = step_none c.args.conn.now.held c.requires.advanced (whole_asks c.args.conn.now.held (sym c.requires.stage ∙ c.in-Whole.is))

pub returns-in-Whole-clause-settles : goal.returns-in-Whole-clause-settles
returns-in-Whole-clause-settles g c =
    goes_answers (is_asking c.args.conn.now.held.stage) c.args.planner.now.site c.args.conn.now.held g.F.Files.tells (g.F.Files.disk c.args.files.now) c.respond.new.conn.held (g.F.Files.disk c.respond.new.files) c.respond.result
    (whole_asks c.args.conn.now.held (sym c.requires.stage ∙ c.in-Whole.is)) c.respond.ensures.settles

pub returns-in-Waiting-clause-compares : goal.returns-in-Waiting-clause-compares
returns-in-Waiting-clause-compares g c = compares_none c.args.planner.now.site _ c.args.steps.now _ _ c.requires.few

pub returns-in-Writing-clause-compares : goal.returns-in-Writing-clause-compares
returns-in-Writing-clause-compares g c = compares_none c.args.planner.now.site _ c.args.steps.now _ _ c.requires.few

pub returns-in-Head-clause-compares : goal.returns-in-Head-clause-compares
returns-in-Head-clause-compares g c = compares_none c.args.planner.now.site _ c.args.steps.now _ _ c.requires.few

pub returns-in-Finished-clause-compares : goal.returns-in-Finished-clause-compares
returns-in-Finished-clause-compares g c = compares_none c.args.planner.now.site _ c.args.steps.now _ _ c.requires.few
