use Rattle.server_model.proofs.ReadSteps.{read_idle}
use Rattle.server_core.proofs.Stepped.{room_wants, no_room}
use Rattle.std.proofs.Common.{[], length, refl, None}
use Rattle.server_core.proofs.Turned.{compares_nothing}
use Rattle.server_core.specs.Asks.{asked_of, GainsReads, AsksOn}
use Rattle.server_core.proofs.Asking.{asks_none}
use Rattle.server_core.specs.Offers.{OffersOn}
use Rattle.server_core.proofs.Offering.{gains_none}
use Rattle.server_core.proofs.step.read_for.Goals as goal

pub returns-then-room-eq0-clause-goes : goal.returns-then-room-eq0-clause-goes
returns-then-room-eq0-clause-goes g c = read_idle (length c.args.store.now.free) c.args.planner.now.site c.args.conn.now.held g.N.Net.tells g.F.Files.tells (g.F.Files.disk c.args.files.now) (g.N.Net.trace c.args.net.now)
    (no_room c.args.conn.now.held c.room-room.result c.room-room.ensures.room c.if-room-eq0.true) c.requires.fits

pub receive-requires-clause-wants : goal.receive-requires-clause-wants
receive-requires-clause-wants g c = room_wants c.args.conn.now.held c.room-room.result c.room-room.ensures.room c.if-room-eq0.false

pub returns-then-room-eq0-clause-offers : goal.returns-then-room-eq0-clause-offers
returns-then-room-eq0-clause-offers g c t = gains_none (OffersOn c.args.conn.now.held.link c.args.conn.now.offers) (g.N.Net.trace c.args.net.now) (g.N.Net.trace c.args.net.now) refl

pub returns-then-room-eq0-clause-compares : goal.returns-then-room-eq0-clause-compares
returns-then-room-eq0-clause-compares g c = compares_nothing c.args.planner.now.site c.args.conn.now.held None g.N.Net.tells g.F.Files.tells (g.F.Files.disk c.args.files.now) (g.N.Net.trace c.args.net.now) (g.N.Net.trace c.args.net.now) c.args.steps.now [] tt (λ t. refl)

pub returns-then-room-eq0-clause-asks : goal.returns-then-room-eq0-clause-asks
returns-then-room-eq0-clause-asks g c t = asks_none (AsksOn c.args.conn.now.held.link (asked_of c.args.conn.now.held)) (g.N.Net.trace c.args.net.now) (g.N.Net.trace c.args.net.now) refl
