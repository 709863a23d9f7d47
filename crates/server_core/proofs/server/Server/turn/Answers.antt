use Rattle.std.proofs.Common.{sym, subst}
use Rattle.lt_world.specs.Trace.{Accepted, Readable, Writable}
use Rattle.server_core.specs.Asks.{AsksIn, GainsReads}
use Rattle.server_core.proofs.Asking.{asks_one, asks_both}
use Rattle.server_core.specs.Offers.{OffersIn, GainsWrites}
use Rattle.server_model.specs.Serves.{Serves}
use Rattle.server_core.specs.Compared.{ComparesIn}
use Rattle.server_core.specs.Steps.{seen_as}
use Rattle.server_core.specs.Within.{Running, serving_at, IsEachBufferOnce}
use Rattle.server_core.proofs.Buffered.{each_once}
use Rattle.server_core.proofs.Offering.{gains_one, gains_both}
use Rattle.server_core.proofs.Turned.{compares_turn}
use Rattle.server_core.proofs.server.Server.turn.Goals as goal

pub returns-in-Arrived-clause-once : goal.returns-in-Arrived-clause-once
returns-in-Arrived-clause-once g c = each_once c.accept_on.new.store c.accept_on.new.clients.items c.accept_on.ensures.kept.each

pub returns-in-Arrived-clause-offers : goal.returns-in-Arrived-clause-offers
returns-in-Arrived-clause-offers g c t =
    gains_both (OffersIn c.args.self.now.table c.args.self.now.offers) (g.N.Net.trace c.args.net.now) (g.N.Net.trace c.next.new.self) (g.N.Net.trace c.accept_on.new.net)
    (gains_one (OffersIn c.args.self.now.table c.args.self.now.offers) c.in-Arrived.link.0 (Accepted c.in-Arrived.peer c.in-Arrived.local) (g.N.Net.trace c.args.net.now) (g.N.Net.trace c.next.new.self) (c.in-Arrived.ensures.trace t) tt)
    (subst (λ (s : Running). GainsWrites (OffersIn s.table s.offers) (g.N.Net.trace c.next.new.self) (g.N.Net.trace c.accept_on.new.net)) c.self.view_is (c.accept_on.ensures.offers t))

pub returns-in-Readable-clause-once : goal.returns-in-Readable-clause-once
returns-in-Readable-clause-once g c = each_once c.step_on.new.store c.step_on.new.clients.items c.step_on.ensures.kept.each

pub returns-in-Readable-clause-offers : goal.returns-in-Readable-clause-offers
returns-in-Readable-clause-offers g c t =
    gains_both (OffersIn c.args.self.now.table c.args.self.now.offers) (g.N.Net.trace c.args.net.now) (g.N.Net.trace c.next.new.self) (g.N.Net.trace c.step_on.new.net)
    (gains_one (OffersIn c.args.self.now.table c.args.self.now.offers) c.in-Readable.link.0 (Readable) (g.N.Net.trace c.args.net.now) (g.N.Net.trace c.next.new.self) (c.in-Readable.ensures.trace t) tt)
    (subst (λ (s : Running). GainsWrites (OffersIn s.table s.offers) (g.N.Net.trace c.next.new.self) (g.N.Net.trace c.step_on.new.net)) c.self.view_is (c.step_on.ensures.offers t))

pub returns-in-Writable-clause-once : goal.returns-in-Writable-clause-once
returns-in-Writable-clause-once g c = each_once c.step_on-in-Writable.new.store c.step_on-in-Writable.new.clients.items c.step_on-in-Writable.ensures.kept.each

pub returns-in-Writable-clause-offers : goal.returns-in-Writable-clause-offers
returns-in-Writable-clause-offers g c t =
    gains_both (OffersIn c.args.self.now.table c.args.self.now.offers) (g.N.Net.trace c.args.net.now) (g.N.Net.trace c.next.new.self) (g.N.Net.trace c.step_on-in-Writable.new.net)
    (gains_one (OffersIn c.args.self.now.table c.args.self.now.offers) c.in-Writable.link.0 (Writable) (g.N.Net.trace c.args.net.now) (g.N.Net.trace c.next.new.self) (c.in-Writable.ensures.trace t) tt)
    (subst (λ (s : Running). GainsWrites (OffersIn s.table s.offers) (g.N.Net.trace c.next.new.self) (g.N.Net.trace c.step_on-in-Writable.new.net)) c.self.view_is (c.step_on-in-Writable.ensures.offers t))

pub returns-in-Idle-clause-once : goal.returns-in-Idle-clause-once
returns-in-Idle-clause-once g c = subst IsEachBufferOnce c.self.view_is (each_once c.self.inside.store c.self.inside.clients.items c.self.invariant.kept.each)

pub returns-in-Over-clause-once : goal.returns-in-Over-clause-once
returns-in-Over-clause-once g c = subst IsEachBufferOnce c.self.view_is (each_once c.self.inside.store c.self.inside.clients.items c.self.invariant.kept.each)

pub returns-in-NoMemory-clause-once : goal.returns-in-NoMemory-clause-once
returns-in-NoMemory-clause-once g c = subst IsEachBufferOnce c.self.view_is (each_once c.self.inside.store c.self.inside.clients.items c.self.invariant.kept.each)

pub returns-in-Readable-clause-passes : goal.returns-in-Readable-clause-passes
returns-in-Readable-clause-passes g c t f serves =
    let offers = c.step_on.ensures.offers t in
    subst (λ (s : Running). ComparesIn s.site (seen_as (g.F.Files.disk c.args.files.now) (g.F.Files.faults c.args.files.now) (g.F.Files.reads c.args.files.now)) (g.N.Net.trace c.args.net.now) (g.N.Net.trace c.step_on.new.net) c.args.steps.now c.step_on.new.steps) c.self.view_is
    (compares_turn c.self.inside.planner.site (seen_as (g.F.Files.disk c.args.files.now) (g.F.Files.faults c.args.files.now) (g.F.Files.reads c.args.files.now)) c.in-Readable.link.0 Readable (g.N.Net.trace c.args.net.now) (g.N.Net.trace c.next.new.self) (g.N.Net.trace c.step_on.new.net) offers.more c.args.steps.now c.step_on.new.steps (c.in-Readable.ensures.trace t) offers.gains
    (c.step_on.ensures.compares t f (g.N.Net.trace c.args.net.now) (c.in-Readable.ensures.trace t) (subst (λ (s : Running). Serves (g.F.Files.disk c.args.files.now) (serving_at s) (g.N.Net.trace c.args.net.now)) (sym c.self.view_is) serves)))

pub returns-in-Writable-clause-passes : goal.returns-in-Writable-clause-passes
returns-in-Writable-clause-passes g c t f serves =
    let offers = c.step_on-in-Writable.ensures.offers t in
    subst (λ (s : Running). ComparesIn s.site (seen_as (g.F.Files.disk c.args.files.now) (g.F.Files.faults c.args.files.now) (g.F.Files.reads c.args.files.now)) (g.N.Net.trace c.args.net.now) (g.N.Net.trace c.step_on-in-Writable.new.net) c.args.steps.now c.step_on-in-Writable.new.steps) c.self.view_is
    (compares_turn c.self.inside.planner.site (seen_as (g.F.Files.disk c.args.files.now) (g.F.Files.faults c.args.files.now) (g.F.Files.reads c.args.files.now)) c.in-Writable.link.0 Writable (g.N.Net.trace c.args.net.now) (g.N.Net.trace c.next.new.self) (g.N.Net.trace c.step_on-in-Writable.new.net) offers.more c.args.steps.now c.step_on-in-Writable.new.steps (c.in-Writable.ensures.trace t) offers.gains
    (c.step_on-in-Writable.ensures.compares t f (g.N.Net.trace c.args.net.now) (c.in-Writable.ensures.trace t) (subst (λ (s : Running). Serves (g.F.Files.disk c.args.files.now) (serving_at s) (g.N.Net.trace c.args.net.now)) (sym c.self.view_is) serves)))

pub returns-in-Arrived-clause-asks : goal.returns-in-Arrived-clause-asks
returns-in-Arrived-clause-asks g c t =
    asks_both (AsksIn c.args.self.now.table) (g.N.Net.trace c.args.net.now) (g.N.Net.trace c.next.new.self) (g.N.Net.trace c.accept_on.new.net)
    (asks_one (AsksIn c.args.self.now.table) c.in-Arrived.link.0 (Accepted c.in-Arrived.peer c.in-Arrived.local) (g.N.Net.trace c.args.net.now) (g.N.Net.trace c.next.new.self) (c.in-Arrived.ensures.trace t) tt)
    (subst (λ (s : Running). GainsReads (AsksIn s.table) (g.N.Net.trace c.next.new.self) (g.N.Net.trace c.accept_on.new.net)) c.self.view_is (c.accept_on.ensures.asks t))

pub returns-in-Readable-clause-asks : goal.returns-in-Readable-clause-asks
returns-in-Readable-clause-asks g c t =
    asks_both (AsksIn c.args.self.now.table) (g.N.Net.trace c.args.net.now) (g.N.Net.trace c.next.new.self) (g.N.Net.trace c.step_on.new.net)
    (asks_one (AsksIn c.args.self.now.table) c.in-Readable.link.0 (Readable) (g.N.Net.trace c.args.net.now) (g.N.Net.trace c.next.new.self) (c.in-Readable.ensures.trace t) tt)
    (subst (λ (s : Running). GainsReads (AsksIn s.table) (g.N.Net.trace c.next.new.self) (g.N.Net.trace c.step_on.new.net)) c.self.view_is (c.step_on.ensures.asks t))

pub returns-in-Writable-clause-asks : goal.returns-in-Writable-clause-asks
returns-in-Writable-clause-asks g c t =
    asks_both (AsksIn c.args.self.now.table) (g.N.Net.trace c.args.net.now) (g.N.Net.trace c.next.new.self) (g.N.Net.trace c.step_on-in-Writable.new.net)
    (asks_one (AsksIn c.args.self.now.table) c.in-Writable.link.0 (Writable) (g.N.Net.trace c.args.net.now) (g.N.Net.trace c.next.new.self) (c.in-Writable.ensures.trace t) tt)
    (subst (λ (s : Running). GainsReads (AsksIn s.table) (g.N.Net.trace c.next.new.self) (g.N.Net.trace c.step_on-in-Writable.new.net)) c.self.view_is (c.step_on-in-Writable.ensures.asks t))
