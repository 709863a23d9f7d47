use Rattle.std.proofs.Common.{ℕ, List, length, take, refl, ap, ◌∙◌, arith}
use Rattle.server_model.specs.Held.{Held}
use Rattle.lt_world.specs.Trace.{Wrote, NotYet, Failed, Writing}
use Rattle.lt_world.specs.Disk.{Disk}
use Rattle.server_model.specs.Steps.{number_of}
use Rattle.server_model.proofs.WriteSteps.{write_idle}
use Rattle.server_model.specs.Turns.{ReadsOne}
use Rattle.server_core.specs.Steps.{FailsFor, seen_as}
use Rattle.server_core.proofs.Stepped.{none_owed, some_owed, fit_lie, open_staged, fault_later, reads_one, faults_goes, offered_not_yet, offered_failed, offered_wrote, tells_at, wrote_idle, wrote_free, wrote_fits, still_same, same_table}
use Rattle.server_core.specs.Asks.{asked_of, AsksOn}
use Rattle.server_core.proofs.Asking.{asks_none, asks_one}
use Rattle.server_core.specs.Offers.{OffersOn}
use Rattle.server_core.proofs.Offering.{gains_none, gains_one}
use Rattle.lt_world.specs.declared.net.Ending.TheVariants as ending
use Rattle.std.proofs.Common.{◌∷◌, [], Some, None}
use Rattle.server_model.specs.Deeds.{Ours}
use Rattle.server_core.proofs.Comparing.{limited}
use Rattle.server_core.proofs.Turned.{compares_nothing, compares_wrote}
use Rattle.server_core.proofs.step.write_for.Goals as goal

pub returns-then-not-owes-clause-goes : goal.returns-then-not-owes-clause-goes
returns-then-not-owes-clause-goes g c later more same = write_idle (ReadsOne (seen_as (g.F.Files.disk c.args.files.now) (g.F.Files.faults c.args.files.now) (g.F.Files.reads c.args.files.now)) later) (FailsFor c.args.conn.now.held.link (seen_as (g.F.Files.disk c.args.files.now) (g.F.Files.faults c.args.files.now) (g.F.Files.reads c.args.files.now)) later) c.args.planner.now.site c.args.conn.now.held g.N.Net.tells g.F.Files.tells (g.F.Files.disk c.args.files.now) (g.N.Net.trace c.args.net.now)
    (none_owed c.args.conn.now.held.owed c.if-not-owes.ensures.owes) c.requires.fits (λ f. reads_one (seen_as (g.F.Files.disk c.args.files.now) (g.F.Files.faults c.args.files.now) (g.F.Files.reads c.args.files.now)) later (g.F.Files.reads c.args.files.now) refl (omega arith) same)

pub stage-requires-clause-lies : goal.stage-requires-clause-lies
stage-requires-clause-lies g c f none = fit_lie (g.F.Files.disk c.args.files.now).table c.args.conn.now.held.file c.args.conn.now.held.owed (c.requires.fits f).owed

pub returns-in_default-clause-goes : goal.returns-in_default-clause-goes
returns-in_default-clause-goes g c later more same =
    faults_goes (ReadsOne (seen_as (g.F.Files.disk c.args.files.now) (g.F.Files.faults c.args.files.now) (g.F.Files.reads c.args.files.now)) later) (FailsFor c.args.conn.now.held.link (seen_as (g.F.Files.disk c.args.files.now) (g.F.Files.faults c.args.files.now) (g.F.Files.reads c.args.files.now)) later) c.args.planner.now.site c.args.conn.now.held c.stage.new.self.held g.N.Net.tells g.F.Files.tells (g.F.Files.disk c.args.files.now) (g.F.Files.disk c.stage.new.files) (g.N.Net.trace c.args.net.now)
    (some_owed c.args.conn.now.held.owed c.if-not-owes.ensures.owes)
    (λ f. fault_later c.args.conn.now.held.link (number_of c.args.conn.now.held.stage) (seen_as (g.F.Files.disk c.args.files.now) (g.F.Files.faults c.args.files.now) (g.F.Files.reads c.args.files.now)) later (g.F.Files.faults c.stage.new.files) (g.F.Files.reads c.stage.new.files) c.in_default.ensures.cause c.in_default.ensures.owner c.stage.ensures.once more same)
    c.in_default.ensures.err c.in_default.ensures.disk

pub settle-requires-clause-idle : goal.settle-requires-clause-idle
settle-requires-clause-idle g c = wrote_idle c.args.conn.now.held c.stage.new.self.held c.in-Ok.ensures.held c.in-Bytes.n c.wrote.new.conn.held c.wrote.ensures.held c.requires.resting

pub settle-requires-clause-free : goal.settle-requires-clause-free
settle-requires-clause-free g c = wrote_free c.args.conn.now.held c.stage.new.self.held c.in-Ok.ensures.held c.in-Bytes.n c.wrote.new.conn.held c.wrote.ensures.held c.requires.resting

pub settle-requires-clause-fits : goal.settle-requires-clause-fits
settle-requires-clause-fits g c f = wrote_fits c.args.conn.now.held c.stage.new.self.held c.in-Ok.ensures.held c.in-Bytes.n (g.F.Files.disk c.args.files.now).table (g.F.Files.disk c.wrote.new.files).table c.wrote.new.conn.held c.wrote.ensures.held (c.requires.fits f)
    (λ some. same_table (g.F.Files.disk c.args.files.now) (g.F.Files.disk c.stage.new.files) (g.F.Files.disk c.wrote.new.files) (c.in-Ok.ensures.disk f)
    (still_same c.args.conn.now.held c.stage.new.self.held c.in-Ok.ensures.held c.in-Bytes.n (g.F.Files.disk c.stage.new.files) (g.F.Files.disk c.wrote.new.files) (c.wrote.ensures.drops f) some))

pub returns-in-Bytes-clause-goes : goal.returns-in-Bytes-clause-goes
returns-in-Bytes-clause-goes g c later more same =
    offered_wrote (ReadsOne (seen_as (g.F.Files.disk c.args.files.now) (g.F.Files.faults c.args.files.now) (g.F.Files.reads c.args.files.now)) later) (FailsFor c.args.conn.now.held.link (seen_as (g.F.Files.disk c.args.files.now) (g.F.Files.faults c.args.files.now) (g.F.Files.reads c.args.files.now)) later) c.args.planner.now.site c.args.conn.now.held c.stage.new.self.held g.N.Net.tells g.F.Files.tells (g.F.Files.disk c.args.files.now) (g.F.Files.disk c.stage.new.files) (g.N.Net.trace c.args.net.now) (g.N.Net.trace c.write.new.self)
    c.in-Ok.ensures.held (some_owed c.args.conn.now.held.owed c.if-not-owes.ensures.owes) c.in-Ok.ensures.shows c.in-Ok.ensures.disk c.offer.result.now c.offer.ensures.leads (omega (arith, c.in-Ok.ensures.ready (some_owed c.args.conn.now.held.owed c.if-not-owes.ensures.owes), ap length c.offer.ensures.front)) c.offer.ensures.most (λ f. reads_one (seen_as (g.F.Files.disk c.args.files.now) (g.F.Files.faults c.args.files.now) (g.F.Files.reads c.args.files.now)) later (g.F.Files.reads c.stage.new.files) c.in-Ok.ensures.read c.stage.ensures.once (same ∙ c.settle.ensures.reads ∙ c.wrote.ensures.reads))
    (g.F.Files.disk c.wrote.new.files) (g.F.Files.disk c.settle.new.files) c.wrote.new.conn.held c.settle.new.conn.held c.settle.result c.in-Bytes.n c.in-Bytes.ensures.within.1
    (λ t. tells_at c.link.result.0 c.stage.new.self.held.link (Wrote (length c.offer.result.now) (take c.in-Bytes.n c.offer.result.now)) (g.N.Net.trace c.args.net.now) (g.N.Net.trace c.write.new.self) c.link.ensures.link (c.in-Bytes.ensures.trace t)) c.wrote.ensures.held c.wrote.ensures.drops c.settle.ensures.settles

pub returns-in-NotYet-clause-goes : goal.returns-in-NotYet-clause-goes
returns-in-NotYet-clause-goes g c later more same =
    offered_not_yet (ReadsOne (seen_as (g.F.Files.disk c.args.files.now) (g.F.Files.faults c.args.files.now) (g.F.Files.reads c.args.files.now)) later) (FailsFor c.args.conn.now.held.link (seen_as (g.F.Files.disk c.args.files.now) (g.F.Files.faults c.args.files.now) (g.F.Files.reads c.args.files.now)) later) c.args.planner.now.site c.args.conn.now.held c.stage.new.self.held g.N.Net.tells g.F.Files.tells (g.F.Files.disk c.args.files.now) (g.F.Files.disk c.stage.new.files) (g.N.Net.trace c.args.net.now) (g.N.Net.trace c.write.new.self)
    c.in-Ok.ensures.held (some_owed c.args.conn.now.held.owed c.if-not-owes.ensures.owes) c.in-Ok.ensures.shows c.in-Ok.ensures.disk c.offer.result.now c.offer.ensures.leads (omega (arith, c.in-Ok.ensures.ready (some_owed c.args.conn.now.held.owed c.if-not-owes.ensures.owes), ap length c.offer.ensures.front)) c.offer.ensures.most (λ f. reads_one (seen_as (g.F.Files.disk c.args.files.now) (g.F.Files.faults c.args.files.now) (g.F.Files.reads c.args.files.now)) later (g.F.Files.reads c.stage.new.files) c.in-Ok.ensures.read c.stage.ensures.once same)
    (λ t. tells_at c.link.result.0 c.stage.new.self.held.link (NotYet Writing) (g.N.Net.trace c.args.net.now) (g.N.Net.trace c.write.new.self) c.link.ensures.link (c.in-NotYet.ensures.trace t)) c.requires.fits

pub returns-in-Failed-clause-goes : goal.returns-in-Failed-clause-goes
returns-in-Failed-clause-goes g c later more same =
    offered_failed (ReadsOne (seen_as (g.F.Files.disk c.args.files.now) (g.F.Files.faults c.args.files.now) (g.F.Files.reads c.args.files.now)) later) (FailsFor c.args.conn.now.held.link (seen_as (g.F.Files.disk c.args.files.now) (g.F.Files.faults c.args.files.now) (g.F.Files.reads c.args.files.now)) later) c.args.planner.now.site c.args.conn.now.held c.stage.new.self.held g.N.Net.tells g.F.Files.tells (g.F.Files.disk c.args.files.now) (g.F.Files.disk c.stage.new.files) (g.N.Net.trace c.args.net.now) (g.N.Net.trace c.write.new.self)
    c.in-Ok.ensures.held (some_owed c.args.conn.now.held.owed c.if-not-owes.ensures.owes) c.in-Ok.ensures.shows c.in-Ok.ensures.disk c.offer.result.now c.offer.ensures.leads (omega (arith, c.in-Ok.ensures.ready (some_owed c.args.conn.now.held.owed c.if-not-owes.ensures.owes), ap length c.offer.ensures.front)) c.offer.ensures.most (λ f. reads_one (seen_as (g.F.Files.disk c.args.files.now) (g.F.Files.faults c.args.files.now) (g.F.Files.reads c.args.files.now)) later (g.F.Files.reads c.stage.new.files) c.in-Ok.ensures.read c.stage.ensures.once same)
    (λ t. tells_at c.link.result.0 c.stage.new.self.held.link (Failed Writing) (g.N.Net.trace c.args.net.now) (g.N.Net.trace c.write.new.self) c.link.ensures.link (c.in-Failed.ensures.trace t))

pub returns-then-not-owes-clause-offers : goal.returns-then-not-owes-clause-offers
returns-then-not-owes-clause-offers g c t = gains_none (OffersOn c.args.conn.now.held.link c.args.conn.now.offers) (g.N.Net.trace c.args.net.now) (g.N.Net.trace c.args.net.now) refl

pub returns-in_default-clause-offers : goal.returns-in_default-clause-offers
returns-in_default-clause-offers g c t = gains_none (OffersOn c.args.conn.now.held.link c.args.conn.now.offers) (g.N.Net.trace c.args.net.now) (g.N.Net.trace c.args.net.now) refl

pub returns-in-Bytes-clause-offers : goal.returns-in-Bytes-clause-offers
returns-in-Bytes-clause-offers g c t = gains_one (OffersOn c.args.conn.now.held.link c.args.conn.now.offers) c.link.result.0 (Wrote (length c.offer.result.now) (take c.in-Bytes.n c.offer.result.now)) (g.N.Net.trace c.args.net.now) (g.N.Net.trace c.write.new.self) (c.in-Bytes.ensures.trace t)
    (c.link.ensures.link ∙ ap (λ (h : Held). h.link) c.in-Ok.ensures.held, ap (λ (l : List ℕ). length l) c.offer.ensures.front ∙ c.in-Ok.ensures.offers)

pub returns-in-NotYet-clause-offers : goal.returns-in-NotYet-clause-offers
returns-in-NotYet-clause-offers g c t = gains_one (OffersOn c.args.conn.now.held.link c.args.conn.now.offers) c.link.result.0 (NotYet Writing) (g.N.Net.trace c.args.net.now) (g.N.Net.trace c.write.new.self) (c.in-NotYet.ensures.trace t) tt

pub returns-in-Failed-clause-offers : goal.returns-in-Failed-clause-offers
returns-in-Failed-clause-offers g c t = gains_one (OffersOn c.args.conn.now.held.link c.args.conn.now.offers) c.link.result.0 (Failed Writing) (g.N.Net.trace c.args.net.now) (g.N.Net.trace c.write.new.self) (c.in-Failed.ensures.trace t) tt

pub wrote-requires-clause-open : goal.wrote-requires-clause-open
wrote-requires-clause-open g c f = open_staged (g.F.Files.disk c.args.files.now).table (g.F.Files.disk c.stage.new.files).table c.stage.new.self.held.file c.args.conn.now.held.file (ap (λ (d : Disk). d.table) (c.in-Ok.ensures.disk f)) (ap (λ (h : Held). h.file) c.in-Ok.ensures.held) (c.requires.fits f).is_open

pub returns-then-not-owes-clause-compares : goal.returns-then-not-owes-clause-compares
returns-then-not-owes-clause-compares g c = compares_nothing c.args.planner.now.site c.args.conn.now.held None g.N.Net.tells g.F.Files.tells (g.F.Files.disk c.args.files.now) (g.N.Net.trace c.args.net.now) (g.N.Net.trace c.args.net.now) c.args.steps.now [] tt (λ t. refl)

pub returns-in_default-clause-compares : goal.returns-in_default-clause-compares
returns-in_default-clause-compares g c = compares_nothing c.args.planner.now.site c.args.conn.now.held (Some ending.FileFault) g.N.Net.tells g.F.Files.tells (g.F.Files.disk c.args.files.now) (g.N.Net.trace c.args.net.now) (g.N.Net.trace c.args.net.now) c.args.steps.now [] tt (λ t. refl)

pub returns-in-NotYet-clause-compares : goal.returns-in-NotYet-clause-compares
returns-in-NotYet-clause-compares g c = compares_nothing c.args.planner.now.site c.args.conn.now.held None g.N.Net.tells g.F.Files.tells (g.F.Files.disk c.args.files.now) (g.N.Net.trace c.args.net.now) (g.N.Net.trace c.write.new.self) c.args.steps.now (Ours (NotYet Writing) ∷ []) (refl, tt)
    (λ t. tells_at c.link.result.0 c.args.conn.now.held.link (NotYet Writing) (g.N.Net.trace c.args.net.now) (g.N.Net.trace c.write.new.self) (c.link.ensures.link ∙ ap (λ (h : Held). h.link) c.in-Ok.ensures.held) (c.in-NotYet.ensures.trace t))

pub returns-in-Failed-clause-compares : goal.returns-in-Failed-clause-compares
returns-in-Failed-clause-compares g c = compares_nothing c.args.planner.now.site c.args.conn.now.held (Some ending.ClientFault) g.N.Net.tells g.F.Files.tells (g.F.Files.disk c.args.files.now) (g.N.Net.trace c.args.net.now) (g.N.Net.trace c.write.new.self) c.args.steps.now (Ours (Failed Writing) ∷ []) (refl, tt)
    (λ t. tells_at c.link.result.0 c.args.conn.now.held.link (Failed Writing) (g.N.Net.trace c.args.net.now) (g.N.Net.trace c.write.new.self) (c.link.ensures.link ∙ ap (λ (h : Held). h.link) c.in-Ok.ensures.held) (c.in-Failed.ensures.trace t))

pub returns-in-Bytes-clause-compares : goal.returns-in-Bytes-clause-compares
returns-in-Bytes-clause-compares g c = compares_wrote c.args.planner.now.site c.args.conn.now.held c.stage.new.self.held c.settle.result g.N.Net.tells g.F.Files.tells (g.F.Files.disk c.args.files.now) (g.N.Net.trace c.args.net.now) (g.N.Net.trace c.write.new.self) c.args.steps.now c.settle.new.steps c.in-Ok.ensures.held (some_owed c.args.conn.now.held.owed c.if-not-owes.ensures.owes)
    c.in-Ok.ensures.shows
    c.offer.result.now c.offer.ensures.leads c.wrote.new.conn.held c.in-Bytes.n c.in-Bytes.ensures.within.1 c.wrote.ensures.held
    (λ t. tells_at c.link.result.0 c.args.conn.now.held.link (Wrote (length c.offer.result.now) (take c.in-Bytes.n c.offer.result.now)) (g.N.Net.trace c.args.net.now) (g.N.Net.trace c.write.new.self) (c.link.ensures.link ∙ ap (λ (h : Held). h.link) c.in-Ok.ensures.held) (c.in-Bytes.ensures.trace t))
    c.settle.ensures.compares

pub returns-in-Bytes-clause-bound : goal.returns-in-Bytes-clause-bound
returns-in-Bytes-clause-bound g c = limited c.args.planner.now.site c.wrote.new.conn.held _ c.args.steps.now c.settle.new.steps c.settle.ensures.compares

pub returns-then-not-owes-clause-asks : goal.returns-then-not-owes-clause-asks
returns-then-not-owes-clause-asks g c t = asks_none (AsksOn c.args.conn.now.held.link (asked_of c.args.conn.now.held)) (g.N.Net.trace c.args.net.now) (g.N.Net.trace c.args.net.now) refl

pub returns-in_default-clause-asks : goal.returns-in_default-clause-asks
returns-in_default-clause-asks g c t = asks_none (AsksOn c.args.conn.now.held.link (asked_of c.args.conn.now.held)) (g.N.Net.trace c.args.net.now) (g.N.Net.trace c.args.net.now) refl

pub returns-in-Bytes-clause-asks : goal.returns-in-Bytes-clause-asks
returns-in-Bytes-clause-asks g c t = asks_one (AsksOn c.args.conn.now.held.link (asked_of c.args.conn.now.held)) c.link.result.0 (Wrote (length c.offer.result.now) (take c.in-Bytes.n c.offer.result.now)) (g.N.Net.trace c.args.net.now) (g.N.Net.trace c.write.new.self) (c.in-Bytes.ensures.trace t) tt

pub returns-in-NotYet-clause-asks : goal.returns-in-NotYet-clause-asks
returns-in-NotYet-clause-asks g c t = asks_one (AsksOn c.args.conn.now.held.link (asked_of c.args.conn.now.held)) c.link.result.0 (NotYet Writing) (g.N.Net.trace c.args.net.now) (g.N.Net.trace c.write.new.self) (c.in-NotYet.ensures.trace t) tt

pub returns-in-Failed-clause-asks : goal.returns-in-Failed-clause-asks
returns-in-Failed-clause-asks g c t = asks_one (AsksOn c.args.conn.now.held.link (asked_of c.args.conn.now.held)) c.link.result.0 (Failed Writing) (g.N.Net.trace c.args.net.now) (g.N.Net.trace c.write.new.self) (c.in-Failed.ensures.trace t) tt
