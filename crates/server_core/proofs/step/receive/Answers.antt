use Rattle.std.proofs.Common.{length, take, refl, sym, ap, ◌∙◌, subst, arith, length-take}
use Rattle.lt_world.specs.Trace.{Read, ReadEnd, NotYet, Failed, Reading}
use Rattle.server_model.specs.Held.{Held}
use Rattle.server_model.specs.Files.{Fits}
use Rattle.server_model.specs.Steps.{received, received_end}
use Rattle.server_model.proofs.ReadSteps.{read_yields, read_then, read_end_then, read_not_yet, read_failed}
use Rattle.server_core.specs.Steps.{is_idle, IsFree}
use Rattle.server_core.proofs.Stepped.{unspared, tells_at, rests_idle, settles_read}
use Rattle.server_core.specs.Asks.{AsksOn}
use Rattle.server_core.proofs.Asking.{asks_one}
use Rattle.server_core.specs.Offers.{OffersOn}
use Rattle.server_core.proofs.Offering.{gains_one}
use Rattle.lt_world.specs.declared.net.Ending.TheVariants as ending
use Rattle.std.proofs.Common.{◌∷◌, [], Some, None}
use Rattle.server_model.specs.Deeds.{Ours}
use Rattle.server_core.proofs.Comparing.{limited}
use Rattle.server_core.proofs.Turned.{compares_nothing, compares_read_bytes, compares_read_end}
use Rattle.server_core.proofs.step.receive.Goals as goal

pub returns-in_default-clause-goes : goal.returns-in_default-clause-goes
returns-in_default-clause-goes g c =
    read_yields (length c.args.store.now.free) c.args.planner.now.site c.args.conn.now.held g.N.Net.tells g.F.Files.tells (g.F.Files.disk c.args.files.now) (g.N.Net.trace c.args.net.now) (g.N.Net.trace c.read.new.self) c.requires.wants c.got.new.self.held
    (unspared (take c.in-Bytes.n c.read.new.buf) (length c.args.store.now.free) (omega (arith, length-take c.in-Bytes.n c.read.new.buf, c.in-Bytes.ensures.within, c.requires.most)) c.in_default.ensures.spare) (length c.read.new.buf) (take c.in-Bytes.n c.read.new.buf)
    (λ t. tells_at c.link.result.0 c.args.conn.now.held.link (Read (length c.read.new.buf) (take c.in-Bytes.n c.read.new.buf)) (g.N.Net.trace c.args.net.now) (g.N.Net.trace c.read.new.self) c.link.ensures.link (c.in-Bytes.ensures.trace t))
    (ap (λ (h : Held). h.link) c.in_default.ensures.err) (ap (λ (h : Held). h.file) c.in_default.ensures.err)

pub settle-requires-clause-idle : goal.settle-requires-clause-idle
settle-requires-clause-idle g c = ap (λ (h : Held). is_idle h.stage) c.in-Ok.ensures.ok ∙ rests_idle c.args.conn.now.held c.requires.resting

pub settle-requires-clause-free : goal.settle-requires-clause-free
settle-requires-clause-free g c = subst IsFree (sym c.in-Ok.ensures.ok) c.requires.resting.1

pub settle-requires-clause-fits : goal.settle-requires-clause-fits
settle-requires-clause-fits g c f = let fits = c.requires.fits f in subst (Fits (g.F.Files.disk c.args.files.now).table) (sym c.in-Ok.ensures.ok) (record { is_open = fits.is_open; owed = fits.owed })

pub returns-in-Ok-clause-goes : goal.returns-in-Ok-clause-goes
returns-in-Ok-clause-goes g c =
    read_then (length c.args.store.now.free) c.args.planner.now.site c.args.conn.now.held g.N.Net.tells g.F.Files.tells (g.F.Files.disk c.args.files.now) (g.N.Net.trace c.args.net.now) (g.N.Net.trace c.read.new.self) c.requires.wants (g.F.Files.disk c.settle.new.files) c.settle.new.conn.held c.settle.result (length c.read.new.buf) (take c.in-Bytes.n c.read.new.buf)
    (λ t. tells_at c.link.result.0 c.args.conn.now.held.link (Read (length c.read.new.buf) (take c.in-Bytes.n c.read.new.buf)) (g.N.Net.trace c.args.net.now) (g.N.Net.trace c.read.new.self) c.link.ensures.link (c.in-Bytes.ensures.trace t))
    (settles_read c.args.planner.now.site c.got.new.self.held (received c.args.conn.now.held (take c.in-Bytes.n c.read.new.buf)) c.settle.new.conn.held g.F.Files.tells (g.F.Files.disk c.args.files.now) (g.F.Files.disk c.settle.new.files) c.settle.result c.in-Ok.ensures.ok c.settle.ensures.settles)

pub returns-in-End-clause-goes : goal.returns-in-End-clause-goes
returns-in-End-clause-goes g c =
    read_end_then (length c.args.store.now.free) c.args.planner.now.site c.args.conn.now.held g.N.Net.tells g.F.Files.tells (g.F.Files.disk c.args.files.now) (g.N.Net.trace c.args.net.now) (g.N.Net.trace c.read.new.self) c.requires.wants (g.F.Files.disk c.settle-in-End.new.files) c.settle-in-End.new.conn.held c.settle-in-End.result
    (λ t. tells_at c.link.result.0 c.args.conn.now.held.link ReadEnd (g.N.Net.trace c.args.net.now) (g.N.Net.trace c.read.new.self) c.link.ensures.link (c.in-End.ensures.trace t))
    (settles_read c.args.planner.now.site c.ended.new.self.held (received_end c.args.conn.now.held) c.settle-in-End.new.conn.held g.F.Files.tells (g.F.Files.disk c.args.files.now) (g.F.Files.disk c.settle-in-End.new.files) c.settle-in-End.result c.ended.ensures.held c.settle-in-End.ensures.settles)

pub returns-in-NotYet-clause-goes : goal.returns-in-NotYet-clause-goes
returns-in-NotYet-clause-goes g c =
    read_not_yet (length c.args.store.now.free) c.args.planner.now.site c.args.conn.now.held g.N.Net.tells g.F.Files.tells (g.F.Files.disk c.args.files.now) (g.N.Net.trace c.args.net.now) (g.N.Net.trace c.read.new.self) c.requires.wants
    (λ t. tells_at c.link.result.0 c.args.conn.now.held.link (NotYet Reading) (g.N.Net.trace c.args.net.now) (g.N.Net.trace c.read.new.self) c.link.ensures.link (c.in-NotYet.ensures.trace t)) c.requires.fits

pub returns-in-Failed-clause-goes : goal.returns-in-Failed-clause-goes
returns-in-Failed-clause-goes g c =
    read_failed (length c.args.store.now.free) c.args.planner.now.site c.args.conn.now.held g.N.Net.tells g.F.Files.tells (g.F.Files.disk c.args.files.now) (g.N.Net.trace c.args.net.now) (g.N.Net.trace c.read.new.self) c.requires.wants
    (λ t. tells_at c.link.result.0 c.args.conn.now.held.link (Failed Reading) (g.N.Net.trace c.args.net.now) (g.N.Net.trace c.read.new.self) c.link.ensures.link (c.in-Failed.ensures.trace t))

pub returns-in_default-clause-offers : goal.returns-in_default-clause-offers
returns-in_default-clause-offers g c t = gains_one (OffersOn c.args.conn.now.held.link c.args.conn.now.offers) c.link.result.0 (Read (length c.read.new.buf) (take c.in-Bytes.n c.read.new.buf)) (g.N.Net.trace c.args.net.now) (g.N.Net.trace c.read.new.self) (c.in-Bytes.ensures.trace t) tt

pub returns-in-Ok-clause-offers : goal.returns-in-Ok-clause-offers
returns-in-Ok-clause-offers g c t = gains_one (OffersOn c.args.conn.now.held.link c.args.conn.now.offers) c.link.result.0 (Read (length c.read.new.buf) (take c.in-Bytes.n c.read.new.buf)) (g.N.Net.trace c.args.net.now) (g.N.Net.trace c.read.new.self) (c.in-Bytes.ensures.trace t) tt

pub returns-in-End-clause-offers : goal.returns-in-End-clause-offers
returns-in-End-clause-offers g c t = gains_one (OffersOn c.args.conn.now.held.link c.args.conn.now.offers) c.link.result.0 (ReadEnd) (g.N.Net.trace c.args.net.now) (g.N.Net.trace c.read.new.self) (c.in-End.ensures.trace t) tt

pub returns-in-NotYet-clause-offers : goal.returns-in-NotYet-clause-offers
returns-in-NotYet-clause-offers g c t = gains_one (OffersOn c.args.conn.now.held.link c.args.conn.now.offers) c.link.result.0 (NotYet Reading) (g.N.Net.trace c.args.net.now) (g.N.Net.trace c.read.new.self) (c.in-NotYet.ensures.trace t) tt

pub returns-in-Failed-clause-offers : goal.returns-in-Failed-clause-offers
returns-in-Failed-clause-offers g c t = gains_one (OffersOn c.args.conn.now.held.link c.args.conn.now.offers) c.link.result.0 (Failed Reading) (g.N.Net.trace c.args.net.now) (g.N.Net.trace c.read.new.self) (c.in-Failed.ensures.trace t) tt

pub returns-in_default-clause-compares : goal.returns-in_default-clause-compares
returns-in_default-clause-compares g c = compares_nothing c.args.planner.now.site c.args.conn.now.held (Some ending.NoMemory) g.N.Net.tells g.F.Files.tells (g.F.Files.disk c.args.files.now) (g.N.Net.trace c.args.net.now) (g.N.Net.trace c.read.new.self) c.args.steps.now (Ours (Read (length c.read.new.buf) (take c.in-Bytes.n c.read.new.buf)) ∷ []) (refl, tt)
    (λ t. tells_at c.link.result.0 c.args.conn.now.held.link (Read (length c.read.new.buf) (take c.in-Bytes.n c.read.new.buf)) (g.N.Net.trace c.args.net.now) (g.N.Net.trace c.read.new.self) c.link.ensures.link (c.in-Bytes.ensures.trace t))

pub returns-in-NotYet-clause-compares : goal.returns-in-NotYet-clause-compares
returns-in-NotYet-clause-compares g c = compares_nothing c.args.planner.now.site c.args.conn.now.held None g.N.Net.tells g.F.Files.tells (g.F.Files.disk c.args.files.now) (g.N.Net.trace c.args.net.now) (g.N.Net.trace c.read.new.self) c.args.steps.now (Ours (NotYet Reading) ∷ []) (refl, tt)
    (λ t. tells_at c.link.result.0 c.args.conn.now.held.link (NotYet Reading) (g.N.Net.trace c.args.net.now) (g.N.Net.trace c.read.new.self) c.link.ensures.link (c.in-NotYet.ensures.trace t))

pub returns-in-Failed-clause-compares : goal.returns-in-Failed-clause-compares
returns-in-Failed-clause-compares g c = compares_nothing c.args.planner.now.site c.args.conn.now.held (Some ending.ClientFault) g.N.Net.tells g.F.Files.tells (g.F.Files.disk c.args.files.now) (g.N.Net.trace c.args.net.now) (g.N.Net.trace c.read.new.self) c.args.steps.now (Ours (Failed Reading) ∷ []) (refl, tt)
    (λ t. tells_at c.link.result.0 c.args.conn.now.held.link (Failed Reading) (g.N.Net.trace c.args.net.now) (g.N.Net.trace c.read.new.self) c.link.ensures.link (c.in-Failed.ensures.trace t))

pub returns-in-Ok-clause-compares : goal.returns-in-Ok-clause-compares
returns-in-Ok-clause-compares g c = compares_read_bytes c.args.planner.now.site c.args.conn.now.held c.settle.result g.N.Net.tells g.F.Files.tells (g.F.Files.disk c.args.files.now) (g.N.Net.trace c.args.net.now) (g.N.Net.trace c.read.new.self) c.args.steps.now c.settle.new.steps c.requires.wants c.requires.resting.0 c.got.new.self.held (length c.read.new.buf) (take c.in-Bytes.n c.read.new.buf) c.in-Ok.ensures.ok
    (λ t. tells_at c.link.result.0 c.args.conn.now.held.link (Read (length c.read.new.buf) (take c.in-Bytes.n c.read.new.buf)) (g.N.Net.trace c.args.net.now) (g.N.Net.trace c.read.new.self) c.link.ensures.link (c.in-Bytes.ensures.trace t)) c.settle.ensures.compares

pub returns-in-End-clause-compares : goal.returns-in-End-clause-compares
returns-in-End-clause-compares g c = compares_read_end c.args.planner.now.site c.args.conn.now.held c.settle-in-End.result g.N.Net.tells g.F.Files.tells (g.F.Files.disk c.args.files.now) (g.N.Net.trace c.args.net.now) (g.N.Net.trace c.read.new.self) c.args.steps.now c.settle-in-End.new.steps c.requires.wants c.requires.resting.0 c.ended.new.self.held c.ended.ensures.held
    (λ t. tells_at c.link.result.0 c.args.conn.now.held.link ReadEnd (g.N.Net.trace c.args.net.now) (g.N.Net.trace c.read.new.self) c.link.ensures.link (c.in-End.ensures.trace t)) c.settle-in-End.ensures.compares

pub returns-in-Ok-clause-bound : goal.returns-in-Ok-clause-bound
returns-in-Ok-clause-bound g c = limited c.args.planner.now.site c.got.new.self.held _ c.args.steps.now c.settle.new.steps c.settle.ensures.compares

pub returns-in-End-clause-bound : goal.returns-in-End-clause-bound
returns-in-End-clause-bound g c = limited c.args.planner.now.site c.ended.new.self.held _ c.args.steps.now c.settle-in-End.new.steps c.settle-in-End.ensures.compares

pub returns-in_default-clause-asks : goal.returns-in_default-clause-asks
returns-in_default-clause-asks g c t = asks_one (AsksOn c.args.conn.now.held.link (length c.args.buf.now)) c.link.result.0 (Read (length c.read.new.buf) (take c.in-Bytes.n c.read.new.buf)) (g.N.Net.trace c.args.net.now) (g.N.Net.trace c.read.new.self) (c.in-Bytes.ensures.trace t) (c.link.ensures.link, omega arith)

pub returns-in-Ok-clause-asks : goal.returns-in-Ok-clause-asks
returns-in-Ok-clause-asks g c t = asks_one (AsksOn c.args.conn.now.held.link (length c.args.buf.now)) c.link.result.0 (Read (length c.read.new.buf) (take c.in-Bytes.n c.read.new.buf)) (g.N.Net.trace c.args.net.now) (g.N.Net.trace c.read.new.self) (c.in-Bytes.ensures.trace t) (c.link.ensures.link, omega arith)

pub returns-in-End-clause-asks : goal.returns-in-End-clause-asks
returns-in-End-clause-asks g c t = asks_one (AsksOn c.args.conn.now.held.link (length c.args.buf.now)) c.link.result.0 (ReadEnd) (g.N.Net.trace c.args.net.now) (g.N.Net.trace c.read.new.self) (c.in-End.ensures.trace t) tt

pub returns-in-NotYet-clause-asks : goal.returns-in-NotYet-clause-asks
returns-in-NotYet-clause-asks g c t = asks_one (AsksOn c.args.conn.now.held.link (length c.args.buf.now)) c.link.result.0 (NotYet Reading) (g.N.Net.trace c.args.net.now) (g.N.Net.trace c.read.new.self) (c.in-NotYet.ensures.trace t) tt

pub returns-in-Failed-clause-asks : goal.returns-in-Failed-clause-asks
returns-in-Failed-clause-asks g c t = asks_one (AsksOn c.args.conn.now.held.link (length c.args.buf.now)) c.link.result.0 (Failed Reading) (g.N.Net.trace c.args.net.now) (g.N.Net.trace c.read.new.self) (c.in-Failed.ensures.trace t) tt
