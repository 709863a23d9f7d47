use Rattle.std.proofs.Common.{Some, refl, sym, subst, ap, ◌∙◌}
use Rattle.connection.specs.Connection.{head_at}
use Rattle.request_plan.specs.Form.{form_of}
use Rattle.request_plan.specs.Lent.{lent, came}
use Rattle.request_plan.specs.Planned.{PlansContent, SendsTo}
use Rattle.server_model.specs.Held.{arrival_of}
use Rattle.server_model.specs.Request.{Head}
use Rattle.server_model.specs.Site.{Site}
use Rattle.server_model.specs.Steps.{number_of}
use Rattle.server_core.proofs.Advancing.{whole_head}
use Rattle.server_core.proofs.Settling.{plans_at, calls_at, same_head, settles_site, settles_unplanned}
use Rattle.server_core.proofs.settle.respond.Goals as goal

pub returns-in_default-plan-clause-settles : goal.returns-in_default-plan-clause-settles
returns-in_default-plan-clause-settles g c =
    let whole = whole_head c.args.conn.now.held c.requires.whole in
    let same = same_head c.in-Some.request.now whole.0 (head_at c.args.conn.now.held.stage) c.in-Some.ensures.request (ap head_at whole.2) in
    settles_unplanned c.args.planner.now.site c.args.conn.now.held g.F.Files.tells (g.F.Files.disk c.args.files.now) (g.F.Files.disk c.plan.new.files) whole.0 whole.1 whole.2 c.requires.file c.requires.fits
    (λ f. calls_at c.args.planner.now.site (came c.arrival.result) (arrival_of c.args.conn.now.held) c.owner-owner.result.conn c.args.conn.now.held.link c.owner-owner.result.request (number_of c.args.conn.now.held.stage) c.in-Some.request.now whole.0 (g.F.Files.disk c.args.files.now) (g.F.Files.disk c.plan.new.files)
    c.arrival.ensures.arrival c.owner-owner.ensures.conn c.owner-owner.ensures.request same (c.in_default-plan.ensures.plans f))

pub returns-clause-settles : goal.returns-clause-settles
returns-clause-settles g c =
    let whole = whole_head c.args.conn.now.held c.requires.whole in
    let same = same_head c.in-Some.request.now whole.0 (head_at c.args.conn.now.held.stage) c.in-Some.ensures.request (ap head_at whole.2) in
    settles_site c.plan.new.self.site c.args.planner.now.site c.plan.ensures.site _ c.args.conn.now.held c.serve.new.conn.held g.F.Files.tells (g.F.Files.disk c.args.files.now) (g.F.Files.disk c.serve.new.files) c.serve.result
    (c.serve.ensures.settles (g.F.Files.disk c.args.files.now) (lent c.in-Ok.chosen.settings) whole.0
    (record { content = whole.1; asking = whole.2; form_is = c.of-form.ensures.form ∙ (λ i. form_of (lent c.in-Ok.chosen.settings).request_limit (c.owner-owner.ensures.request i) (same i)); tag_is = refl })
    (subst (λ (h : Head). SendsTo h.method c.in-Ok.chosen.content) same c.in-Ok.ensures.sends)
    c.requires.fits
    (λ f. subst (λ (s : Site). PlansContent c.in-Ok.chosen.content (lent c.in-Ok.chosen.settings) c.in-Ok.chosen.status c.in-Ok.chosen.fields s (Some (arrival_of c.args.conn.now.held)) c.args.conn.now.held.link (number_of c.args.conn.now.held.stage) whole.0 (g.F.Files.disk c.args.files.now) (g.F.Files.disk c.plan.new.files)) (sym c.plan.ensures.site)
    (plans_at c.in-Ok.chosen.content (lent c.in-Ok.chosen.settings) c.in-Ok.chosen.status c.in-Ok.chosen.fields c.args.planner.now.site (came c.arrival.result) (arrival_of c.args.conn.now.held) c.owner-owner.result.conn c.args.conn.now.held.link c.owner-owner.result.request (number_of c.args.conn.now.held.stage) c.in-Some.request.now whole.0 (g.F.Files.disk c.args.files.now) (g.F.Files.disk c.plan.new.files)
    c.arrival.ensures.arrival c.owner-owner.ensures.conn c.owner-owner.ensures.request same (c.in-Ok.ensures.plans f))))
