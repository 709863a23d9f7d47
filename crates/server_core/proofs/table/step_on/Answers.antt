use Rattle.std.proofs.Common.{length, refl, set, Some, None, ap, ◌∙◌, arith}
use Rattle.server_model.specs.Serves.{Stands}
use Rattle.server_model.specs.Turns.{DueOn}
use Rattle.server_model.proofs.Going.{stop_closed}
use Rattle.server_model.proofs.Turning.{turn_out, kept_fits}
use Rattle.connection.specs.Connection.{Connected}
use Rattle.server_core.specs.Steps.{event_of, seen_as}
use Rattle.server_core.specs.Table.{helds, offers_of, serving}
use Rattle.server_core.proofs.Listed.{place_below, place_link, place_kept, place_within, place_resting, place_set, place_removed, place_set_kept, place_removed_kept, closing_within}
use Rattle.server_core.proofs.Tabled.{is_ready, is_quiet, place_as, none_as, lent_at, close_told, drops_at, conns_turn, conns_backs, conns_table, taken_is, taken_open, within_as, kept_as}
use Rattle.lt_world.specs.Trace.{Close}
use Rattle.server_core.specs.Asks.{AsksIn}
use Rattle.server_core.proofs.Asking.{asks_none, asks_one, asks_both, place_asks}
use Rattle.server_core.specs.Offers.{OffersIn}
use Rattle.server_core.proofs.Offering.{gains_none, gains_one, gains_both, place_offers}
use Rattle.server_core.proofs.Placed.{places_set}
use Rattle.server_core.specs.Compared.{wanted_in}
use Rattle.server_core.proofs.Turned.{compares_open, compares_closed, wants_few}
use Rattle.server_core.proofs.table.step_on.Goals as goal

pub returns-in_default-clause-turn : goal.returns-in_default-clause-turn
returns-in_default-clause-turn g c = turn_out (event_of c.args.ready) (is_ready c.args.ready) (is_quiet c.args.ready) c.args.link.0 (serving c.args.planner.now.site c.args.clients.now.items) g.N.Net.tells g.F.Files.tells (length c.args.store.now.free) (seen_as (g.F.Files.disk c.args.files.now) (g.F.Files.faults c.args.files.now) (g.F.Files.reads c.args.files.now)) (g.N.Net.trace c.args.net.now)
    (none_as c.args.link.0 c.args.clients.now.items c.deref.result.now c.deref.ensures.value c.in_default.ensures)

pub step_for-requires-clause-known : goal.step_for-requires-clause-known
step_for-requires-clause-known g c = omega (arith, c.requires.known, place_link c.args.link.0 c.args.clients.now.items c.in-Some.i c.conn_mut.result.now (place_as c.args.link.0 c.args.clients.now.items c.deref.result.now c.in-Some.i c.deref.ensures.value c.in-Some.ensures) (lent_at c.args.clients.now.items c.in-Some.i c.index_mut-client.result.now c.conn_mut.result.now c.conn_mut.ensures.value c.index_mut-client.ensures.value))

pub step_for-requires-clause-counted : goal.step_for-requires-clause-counted
step_for-requires-clause-counted g c = place_within c.args.link.0 c.args.clients.now.items c.in-Some.i c.conn_mut.result.now (place_as c.args.link.0 c.args.clients.now.items c.deref.result.now c.in-Some.i c.deref.ensures.value c.in-Some.ensures) (lent_at c.args.clients.now.items c.in-Some.i c.index_mut-client.result.now c.conn_mut.result.now c.conn_mut.ensures.value c.index_mut-client.ensures.value) c.args.store.now c.requires.kept

pub step_for-requires-clause-resting : goal.step_for-requires-clause-resting
step_for-requires-clause-resting g c = place_resting c.args.link.0 c.args.clients.now.items c.in-Some.i c.conn_mut.result.now (place_as c.args.link.0 c.args.clients.now.items c.deref.result.now c.in-Some.i c.deref.ensures.value c.in-Some.ensures) (lent_at c.args.clients.now.items c.in-Some.i c.index_mut-client.result.now c.conn_mut.result.now c.conn_mut.ensures.value c.index_mut-client.ensures.value) c.args.store.now c.requires.kept

pub step_for-requires-clause-fits : goal.step_for-requires-clause-fits
step_for-requires-clause-fits g c f = kept_fits (g.F.Files.disk c.args.files.now).table c.args.link.0 (helds c.args.clients.now.items) c.conn_mut.result.now.held (place_kept c.args.link.0 c.args.clients.now.items c.in-Some.i c.conn_mut.result.now (place_as c.args.link.0 c.args.clients.now.items c.deref.result.now c.in-Some.i c.deref.ensures.value c.in-Some.ensures) (lent_at c.args.clients.now.items c.in-Some.i c.index_mut-client.result.now c.conn_mut.result.now c.conn_mut.ensures.value c.index_mut-client.ensures.value) c.requires.kept.rising) (c.requires.backs f)

pub returns-in_default-step_for-clause-turn : goal.returns-in_default-step_for-clause-turn
returns-in_default-step_for-clause-turn g c = conns_turn (event_of c.args.ready) (is_ready c.args.ready) c.args.link.0 c.args.planner.now.site c.args.clients.now.items (set c.args.clients.now.items c.in-Some.i c.step_for.new.conn) c.conn_mut.result.now.held (Some c.step_for.new.conn.held) g.N.Net.tells g.F.Files.tells (length c.args.store.now.free) (seen_as (g.F.Files.disk c.args.files.now) (g.F.Files.faults c.args.files.now) (g.F.Files.reads c.args.files.now)) (seen_as (g.F.Files.disk c.step_for.new.files) (g.F.Files.faults c.step_for.new.files) (g.F.Files.reads c.step_for.new.files)) (g.N.Net.trace c.args.net.now) (g.N.Net.trace c.step_for.new.net)
    (place_link c.args.link.0 c.args.clients.now.items c.in-Some.i c.conn_mut.result.now (place_as c.args.link.0 c.args.clients.now.items c.deref.result.now c.in-Some.i c.deref.ensures.value c.in-Some.ensures) (lent_at c.args.clients.now.items c.in-Some.i c.index_mut-client.result.now c.conn_mut.result.now c.conn_mut.ensures.value c.index_mut-client.ensures.value)) (place_kept c.args.link.0 c.args.clients.now.items c.in-Some.i c.conn_mut.result.now (place_as c.args.link.0 c.args.clients.now.items c.deref.result.now c.in-Some.i c.deref.ensures.value c.in-Some.ensures) (lent_at c.args.clients.now.items c.in-Some.i c.index_mut-client.result.now c.conn_mut.result.now c.conn_mut.ensures.value c.index_mut-client.ensures.value) c.requires.kept.rising)
    (place_set c.args.link.0 c.args.clients.now.items c.in-Some.i c.conn_mut.result.now (place_as c.args.link.0 c.args.clients.now.items c.deref.result.now c.in-Some.i c.deref.ensures.value c.in-Some.ensures) (lent_at c.args.clients.now.items c.in-Some.i c.index_mut-client.result.now c.conn_mut.result.now c.conn_mut.ensures.value c.index_mut-client.ensures.value) c.requires.kept.rising c.step_for.new.conn c.step_for.ensures.link) c.requires.backs
    (c.in_default-step_for.ensures.goes (seen_as (g.F.Files.disk c.step_for.new.files) (g.F.Files.faults c.step_for.new.files) (g.F.Files.reads c.step_for.new.files)) (omega arith) refl) (g.met.F.Files.later_faults c.args.files.now c.step_for.new.files c.in_default-step_for.ensures.later)

pub returns-in_default-step_for-clause-kept : goal.returns-in_default-step_for-clause-kept
returns-in_default-step_for-clause-kept g c = place_set_kept c.args.link.0 c.args.clients.now.items c.in-Some.i c.conn_mut.result.now (place_as c.args.link.0 c.args.clients.now.items c.deref.result.now c.in-Some.i c.deref.ensures.value c.in-Some.ensures) (lent_at c.args.clients.now.items c.in-Some.i c.index_mut-client.result.now c.conn_mut.result.now c.conn_mut.ensures.value c.index_mut-client.ensures.value) c.args.store.now c.requires.kept c.step_for.new.conn c.step_for.new.store c.step_for.ensures.kept c.step_for.ensures.link c.in_default-step_for.ensures.waits

pub returns-in_default-step_for-clause-table : goal.returns-in_default-step_for-clause-table
returns-in_default-step_for-clause-table g c is = conns_table (g.N.Net.links c.args.net.now) (g.N.Net.links c.step_for.new.net) c.args.link.0 c.args.clients.now.items (set c.args.clients.now.items c.in-Some.i c.step_for.new.conn) (Some c.step_for.new.conn.held)
    (place_set c.args.link.0 c.args.clients.now.items c.in-Some.i c.conn_mut.result.now (place_as c.args.link.0 c.args.clients.now.items c.deref.result.now c.in-Some.i c.deref.ensures.value c.in-Some.ensures) (lent_at c.args.clients.now.items c.in-Some.i c.index_mut-client.result.now c.conn_mut.result.now c.conn_mut.ensures.value c.index_mut-client.ensures.value) c.requires.kept.rising c.step_for.new.conn c.step_for.ensures.link) c.step_for.ensures.links c.requires.known is

pub returns-in_default-step_for-clause-backs : goal.returns-in_default-step_for-clause-backs
returns-in_default-step_for-clause-backs g c f = conns_backs (event_of c.args.ready) (is_ready c.args.ready) c.args.link.0 c.args.planner.now.site c.args.clients.now.items (set c.args.clients.now.items c.in-Some.i c.step_for.new.conn) c.conn_mut.result.now.held (Some c.step_for.new.conn.held) g.N.Net.tells g.F.Files.tells (length c.args.store.now.free) (seen_as (g.F.Files.disk c.args.files.now) (g.F.Files.faults c.args.files.now) (g.F.Files.reads c.args.files.now)) (seen_as (g.F.Files.disk c.step_for.new.files) (g.F.Files.faults c.step_for.new.files) (g.F.Files.reads c.step_for.new.files)) (g.N.Net.trace c.args.net.now) (g.N.Net.trace c.step_for.new.net)
    (place_link c.args.link.0 c.args.clients.now.items c.in-Some.i c.conn_mut.result.now (place_as c.args.link.0 c.args.clients.now.items c.deref.result.now c.in-Some.i c.deref.ensures.value c.in-Some.ensures) (lent_at c.args.clients.now.items c.in-Some.i c.index_mut-client.result.now c.conn_mut.result.now c.conn_mut.ensures.value c.index_mut-client.ensures.value)) (place_kept c.args.link.0 c.args.clients.now.items c.in-Some.i c.conn_mut.result.now (place_as c.args.link.0 c.args.clients.now.items c.deref.result.now c.in-Some.i c.deref.ensures.value c.in-Some.ensures) (lent_at c.args.clients.now.items c.in-Some.i c.index_mut-client.result.now c.conn_mut.result.now c.conn_mut.ensures.value c.index_mut-client.ensures.value) c.requires.kept.rising)
    (place_set c.args.link.0 c.args.clients.now.items c.in-Some.i c.conn_mut.result.now (place_as c.args.link.0 c.args.clients.now.items c.deref.result.now c.in-Some.i c.deref.ensures.value c.in-Some.ensures) (lent_at c.args.clients.now.items c.in-Some.i c.index_mut-client.result.now c.conn_mut.result.now c.conn_mut.ensures.value c.index_mut-client.ensures.value) c.requires.kept.rising c.step_for.new.conn c.step_for.ensures.link) c.requires.backs
    (c.in_default-step_for.ensures.goes (seen_as (g.F.Files.disk c.step_for.new.files) (g.F.Files.faults c.step_for.new.files) (g.F.Files.reads c.step_for.new.files)) (omega arith) refl) f

pub finish-requires-clause-known : goal.finish-requires-clause-known
finish-requires-clause-known g c = omega (arith, c.requires.known, place_link c.args.link.0 c.args.clients.now.items c.in-Some.i c.conn_mut.result.now (place_as c.args.link.0 c.args.clients.now.items c.deref.result.now c.in-Some.i c.deref.ensures.value c.in-Some.ensures) (lent_at c.args.clients.now.items c.in-Some.i c.index_mut-client.result.now c.conn_mut.result.now c.conn_mut.ensures.value c.index_mut-client.ensures.value), c.step_for.ensures.link, c.step_for.ensures.links, ap (λ (k : Connected). k.held.link) (taken_is c.args.clients.now.items c.in-Some.i c.step_for.new.conn c.take_out.result (place_below c.args.link.0 c.args.clients.now.items c.in-Some.i c.conn_mut.result.now (place_as c.args.link.0 c.args.clients.now.items c.deref.result.now c.in-Some.i c.deref.ensures.value c.in-Some.ensures) (lent_at c.args.clients.now.items c.in-Some.i c.index_mut-client.result.now c.conn_mut.result.now c.conn_mut.ensures.value c.index_mut-client.ensures.value)) c.take_out.ensures.value))

pub finish-requires-clause-counted : goal.finish-requires-clause-counted
finish-requires-clause-counted g c = within_as c.step_for.new.store c.take_out.result c.step_for.new.conn (taken_is c.args.clients.now.items c.in-Some.i c.step_for.new.conn c.take_out.result (place_below c.args.link.0 c.args.clients.now.items c.in-Some.i c.conn_mut.result.now (place_as c.args.link.0 c.args.clients.now.items c.deref.result.now c.in-Some.i c.deref.ensures.value c.in-Some.ensures) (lent_at c.args.clients.now.items c.in-Some.i c.index_mut-client.result.now c.conn_mut.result.now c.conn_mut.ensures.value c.index_mut-client.ensures.value)) c.take_out.ensures.value) (closing_within c.args.link.0 c.args.clients.now.items c.in-Some.i c.conn_mut.result.now (place_as c.args.link.0 c.args.clients.now.items c.deref.result.now c.in-Some.i c.deref.ensures.value c.in-Some.ensures) (lent_at c.args.clients.now.items c.in-Some.i c.index_mut-client.result.now c.conn_mut.result.now c.conn_mut.ensures.value c.index_mut-client.ensures.value) c.args.store.now c.requires.kept c.step_for.new.conn c.step_for.new.store c.step_for.ensures.kept)

pub finish-requires-clause-open : goal.finish-requires-clause-open
finish-requires-clause-open g c f = taken_open (g.F.Files.disk c.step_for.new.files).table c.take_out.result c.step_for.new.conn (taken_is c.args.clients.now.items c.in-Some.i c.step_for.new.conn c.take_out.result (place_below c.args.link.0 c.args.clients.now.items c.in-Some.i c.conn_mut.result.now (place_as c.args.link.0 c.args.clients.now.items c.deref.result.now c.in-Some.i c.deref.ensures.value c.in-Some.ensures) (lent_at c.args.clients.now.items c.in-Some.i c.index_mut-client.result.now c.conn_mut.result.now c.conn_mut.ensures.value c.index_mut-client.ensures.value)) c.take_out.ensures.value)
    (((c.in-Some-step_for.ensures.goes (seen_as (g.F.Files.disk c.step_for.new.files) (g.F.Files.faults c.step_for.new.files) (g.F.Files.reads c.step_for.new.files)) (omega arith) refl).does f).is_open (kept_fits (g.F.Files.disk c.args.files.now).table c.args.link.0 (helds c.args.clients.now.items) c.conn_mut.result.now.held (place_kept c.args.link.0 c.args.clients.now.items c.in-Some.i c.conn_mut.result.now (place_as c.args.link.0 c.args.clients.now.items c.deref.result.now c.in-Some.i c.deref.ensures.value c.in-Some.ensures) (lent_at c.args.clients.now.items c.in-Some.i c.index_mut-client.result.now c.conn_mut.result.now c.conn_mut.ensures.value c.index_mut-client.ensures.value) c.requires.kept.rising) (c.requires.backs f)).is_open)

pub returns-clause-turn : goal.returns-clause-turn
returns-clause-turn g c = conns_turn (event_of c.args.ready) (is_ready c.args.ready) c.args.link.0 c.args.planner.now.site c.args.clients.now.items c.take_out.new.clients.items c.conn_mut.result.now.held None g.N.Net.tells g.F.Files.tells (length c.args.store.now.free) (seen_as (g.F.Files.disk c.args.files.now) (g.F.Files.faults c.args.files.now) (g.F.Files.reads c.args.files.now)) (seen_as (g.F.Files.disk c.finish.new.files) (g.F.Files.faults c.finish.new.files) (g.F.Files.reads c.finish.new.files)) (g.N.Net.trace c.args.net.now) (g.N.Net.trace c.finish.new.net)
    (place_link c.args.link.0 c.args.clients.now.items c.in-Some.i c.conn_mut.result.now (place_as c.args.link.0 c.args.clients.now.items c.deref.result.now c.in-Some.i c.deref.ensures.value c.in-Some.ensures) (lent_at c.args.clients.now.items c.in-Some.i c.index_mut-client.result.now c.conn_mut.result.now c.conn_mut.ensures.value c.index_mut-client.ensures.value)) (place_kept c.args.link.0 c.args.clients.now.items c.in-Some.i c.conn_mut.result.now (place_as c.args.link.0 c.args.clients.now.items c.deref.result.now c.in-Some.i c.deref.ensures.value c.in-Some.ensures) (lent_at c.args.clients.now.items c.in-Some.i c.index_mut-client.result.now c.conn_mut.result.now c.conn_mut.ensures.value c.index_mut-client.ensures.value) c.requires.kept.rising)
    (place_removed c.args.link.0 c.args.clients.now.items c.in-Some.i c.conn_mut.result.now (place_as c.args.link.0 c.args.clients.now.items c.deref.result.now c.in-Some.i c.deref.ensures.value c.in-Some.ensures) (lent_at c.args.clients.now.items c.in-Some.i c.index_mut-client.result.now c.conn_mut.result.now c.conn_mut.ensures.value c.index_mut-client.ensures.value) c.requires.kept.rising c.step_for.new.conn c.take_out.new.clients.items c.take_out.ensures.items) c.requires.backs
    (stop_closed Stands (DueOn (event_of c.args.ready) (length c.args.store.now.free) (seen_as (g.F.Files.disk c.args.files.now) (g.F.Files.faults c.args.files.now) (g.F.Files.reads c.args.files.now)) (seen_as (g.F.Files.disk c.finish.new.files) (g.F.Files.faults c.finish.new.files) (g.F.Files.reads c.finish.new.files)) c.conn_mut.result.now.held.link) c.args.planner.now.site c.conn_mut.result.now.held c.step_for.new.conn.held c.in-Some-step_for.ending g.N.Net.tells g.F.Files.tells (g.F.Files.disk c.args.files.now) (g.F.Files.disk c.step_for.new.files) (g.F.Files.disk c.finish.new.files) (g.N.Net.trace c.args.net.now) (g.N.Net.trace c.step_for.new.net) (g.N.Net.trace c.finish.new.net)
    (c.in-Some-step_for.ensures.goes (seen_as (g.F.Files.disk c.finish.new.files) (g.F.Files.faults c.finish.new.files) (g.F.Files.reads c.finish.new.files)) (g.met.F.Files.later_faults c.step_for.new.files c.finish.new.files c.finish.ensures.later) c.finish.ensures.reads)
    (λ t. close_told c.take_out.result.held.link c.step_for.new.conn.held.link c.in-Some-step_for.ending (g.N.Net.trace c.step_for.new.net) (g.N.Net.trace c.finish.new.net) (ap (λ (k : Connected). k.held.link) (taken_is c.args.clients.now.items c.in-Some.i c.step_for.new.conn c.take_out.result (place_below c.args.link.0 c.args.clients.now.items c.in-Some.i c.conn_mut.result.now (place_as c.args.link.0 c.args.clients.now.items c.deref.result.now c.in-Some.i c.deref.ensures.value c.in-Some.ensures) (lent_at c.args.clients.now.items c.in-Some.i c.index_mut-client.result.now c.conn_mut.result.now c.conn_mut.ensures.value c.index_mut-client.ensures.value)) c.take_out.ensures.value)) (c.finish.ensures.trace t))
    (λ f. drops_at c.take_out.result c.step_for.new.conn (g.F.Files.disk c.step_for.new.files) (g.F.Files.disk c.finish.new.files) (taken_is c.args.clients.now.items c.in-Some.i c.step_for.new.conn c.take_out.result (place_below c.args.link.0 c.args.clients.now.items c.in-Some.i c.conn_mut.result.now (place_as c.args.link.0 c.args.clients.now.items c.deref.result.now c.in-Some.i c.deref.ensures.value c.in-Some.ensures) (lent_at c.args.clients.now.items c.in-Some.i c.index_mut-client.result.now c.conn_mut.result.now c.conn_mut.ensures.value c.index_mut-client.ensures.value)) c.take_out.ensures.value) (c.finish.ensures.drops f))) (g.met.F.Files.later_faults c.args.files.now c.finish.new.files (g.met.F.Files.later_later c.args.files.now c.step_for.new.files c.finish.new.files c.step_for.ensures.later c.finish.ensures.later))

pub returns-clause-kept : goal.returns-clause-kept
returns-clause-kept g c = place_removed_kept c.args.link.0 c.args.clients.now.items c.in-Some.i c.conn_mut.result.now (place_as c.args.link.0 c.args.clients.now.items c.deref.result.now c.in-Some.i c.deref.ensures.value c.in-Some.ensures) (lent_at c.args.clients.now.items c.in-Some.i c.index_mut-client.result.now c.conn_mut.result.now c.conn_mut.ensures.value c.index_mut-client.ensures.value) c.args.store.now c.requires.kept c.step_for.new.conn c.step_for.new.store c.step_for.ensures.kept c.finish.new.store (kept_as c.step_for.new.store c.finish.new.store c.take_out.result c.step_for.new.conn (taken_is c.args.clients.now.items c.in-Some.i c.step_for.new.conn c.take_out.result (place_below c.args.link.0 c.args.clients.now.items c.in-Some.i c.conn_mut.result.now (place_as c.args.link.0 c.args.clients.now.items c.deref.result.now c.in-Some.i c.deref.ensures.value c.in-Some.ensures) (lent_at c.args.clients.now.items c.in-Some.i c.index_mut-client.result.now c.conn_mut.result.now c.conn_mut.ensures.value c.index_mut-client.ensures.value)) c.take_out.ensures.value) c.finish.ensures.kept) c.step_for.new.conn c.take_out.new.clients.items c.take_out.ensures.items

pub returns-clause-table : goal.returns-clause-table
returns-clause-table g c is = conns_table (g.N.Net.links c.args.net.now) (g.N.Net.links c.finish.new.net) c.args.link.0 c.args.clients.now.items c.take_out.new.clients.items None
    (place_removed c.args.link.0 c.args.clients.now.items c.in-Some.i c.conn_mut.result.now (place_as c.args.link.0 c.args.clients.now.items c.deref.result.now c.in-Some.i c.deref.ensures.value c.in-Some.ensures) (lent_at c.args.clients.now.items c.in-Some.i c.index_mut-client.result.now c.conn_mut.result.now c.conn_mut.ensures.value c.index_mut-client.ensures.value) c.requires.kept.rising c.step_for.new.conn c.take_out.new.clients.items c.take_out.ensures.items) (c.finish.ensures.links ∙ c.step_for.ensures.links) c.requires.known is

pub returns-clause-backs : goal.returns-clause-backs
returns-clause-backs g c f = conns_backs (event_of c.args.ready) (is_ready c.args.ready) c.args.link.0 c.args.planner.now.site c.args.clients.now.items c.take_out.new.clients.items c.conn_mut.result.now.held None g.N.Net.tells g.F.Files.tells (length c.args.store.now.free) (seen_as (g.F.Files.disk c.args.files.now) (g.F.Files.faults c.args.files.now) (g.F.Files.reads c.args.files.now)) (seen_as (g.F.Files.disk c.finish.new.files) (g.F.Files.faults c.finish.new.files) (g.F.Files.reads c.finish.new.files)) (g.N.Net.trace c.args.net.now) (g.N.Net.trace c.finish.new.net)
    (place_link c.args.link.0 c.args.clients.now.items c.in-Some.i c.conn_mut.result.now (place_as c.args.link.0 c.args.clients.now.items c.deref.result.now c.in-Some.i c.deref.ensures.value c.in-Some.ensures) (lent_at c.args.clients.now.items c.in-Some.i c.index_mut-client.result.now c.conn_mut.result.now c.conn_mut.ensures.value c.index_mut-client.ensures.value)) (place_kept c.args.link.0 c.args.clients.now.items c.in-Some.i c.conn_mut.result.now (place_as c.args.link.0 c.args.clients.now.items c.deref.result.now c.in-Some.i c.deref.ensures.value c.in-Some.ensures) (lent_at c.args.clients.now.items c.in-Some.i c.index_mut-client.result.now c.conn_mut.result.now c.conn_mut.ensures.value c.index_mut-client.ensures.value) c.requires.kept.rising)
    (place_removed c.args.link.0 c.args.clients.now.items c.in-Some.i c.conn_mut.result.now (place_as c.args.link.0 c.args.clients.now.items c.deref.result.now c.in-Some.i c.deref.ensures.value c.in-Some.ensures) (lent_at c.args.clients.now.items c.in-Some.i c.index_mut-client.result.now c.conn_mut.result.now c.conn_mut.ensures.value c.index_mut-client.ensures.value) c.requires.kept.rising c.step_for.new.conn c.take_out.new.clients.items c.take_out.ensures.items) c.requires.backs
    (stop_closed Stands (DueOn (event_of c.args.ready) (length c.args.store.now.free) (seen_as (g.F.Files.disk c.args.files.now) (g.F.Files.faults c.args.files.now) (g.F.Files.reads c.args.files.now)) (seen_as (g.F.Files.disk c.finish.new.files) (g.F.Files.faults c.finish.new.files) (g.F.Files.reads c.finish.new.files)) c.conn_mut.result.now.held.link) c.args.planner.now.site c.conn_mut.result.now.held c.step_for.new.conn.held c.in-Some-step_for.ending g.N.Net.tells g.F.Files.tells (g.F.Files.disk c.args.files.now) (g.F.Files.disk c.step_for.new.files) (g.F.Files.disk c.finish.new.files) (g.N.Net.trace c.args.net.now) (g.N.Net.trace c.step_for.new.net) (g.N.Net.trace c.finish.new.net)
    (c.in-Some-step_for.ensures.goes (seen_as (g.F.Files.disk c.finish.new.files) (g.F.Files.faults c.finish.new.files) (g.F.Files.reads c.finish.new.files)) (g.met.F.Files.later_faults c.step_for.new.files c.finish.new.files c.finish.ensures.later) c.finish.ensures.reads)
    (λ t. close_told c.take_out.result.held.link c.step_for.new.conn.held.link c.in-Some-step_for.ending (g.N.Net.trace c.step_for.new.net) (g.N.Net.trace c.finish.new.net) (ap (λ (k : Connected). k.held.link) (taken_is c.args.clients.now.items c.in-Some.i c.step_for.new.conn c.take_out.result (place_below c.args.link.0 c.args.clients.now.items c.in-Some.i c.conn_mut.result.now (place_as c.args.link.0 c.args.clients.now.items c.deref.result.now c.in-Some.i c.deref.ensures.value c.in-Some.ensures) (lent_at c.args.clients.now.items c.in-Some.i c.index_mut-client.result.now c.conn_mut.result.now c.conn_mut.ensures.value c.index_mut-client.ensures.value)) c.take_out.ensures.value)) (c.finish.ensures.trace t))
    (λ f. drops_at c.take_out.result c.step_for.new.conn (g.F.Files.disk c.step_for.new.files) (g.F.Files.disk c.finish.new.files) (taken_is c.args.clients.now.items c.in-Some.i c.step_for.new.conn c.take_out.result (place_below c.args.link.0 c.args.clients.now.items c.in-Some.i c.conn_mut.result.now (place_as c.args.link.0 c.args.clients.now.items c.deref.result.now c.in-Some.i c.deref.ensures.value c.in-Some.ensures) (lent_at c.args.clients.now.items c.in-Some.i c.index_mut-client.result.now c.conn_mut.result.now c.conn_mut.ensures.value c.index_mut-client.ensures.value)) c.take_out.ensures.value) (c.finish.ensures.drops f))) f

pub returns-clause-net_later : goal.returns-clause-net_later
returns-clause-net_later g c = g.met.N.Net.later_later c.args.net.now c.step_for.new.net c.finish.new.net c.step_for.ensures.net_later c.finish.ensures.net_later

pub returns-clause-later : goal.returns-clause-later
returns-clause-later g c = g.met.F.Files.later_later c.args.files.now c.step_for.new.files c.finish.new.files c.step_for.ensures.later c.finish.ensures.later

pub returns-in_default-clause-offers : goal.returns-in_default-clause-offers
returns-in_default-clause-offers g c t = gains_none (OffersIn (helds c.args.clients.now.items) (offers_of c.args.clients.now.items)) (g.N.Net.trace c.args.net.now) (g.N.Net.trace c.args.net.now) refl

pub returns-in_default-step_for-clause-offers : goal.returns-in_default-step_for-clause-offers
returns-in_default-step_for-clause-offers g c t = place_offers c.args.link.0 c.args.clients.now.items c.in-Some.i c.conn_mut.result.now (place_as c.args.link.0 c.args.clients.now.items c.deref.result.now c.in-Some.i c.deref.ensures.value c.in-Some.ensures) (lent_at c.args.clients.now.items c.in-Some.i c.index_mut-client.result.now c.conn_mut.result.now c.conn_mut.ensures.value c.index_mut-client.ensures.value) c.requires.kept.rising (g.N.Net.trace c.args.net.now) (g.N.Net.trace c.step_for.new.net) (c.step_for.ensures.offers t)

pub returns-clause-offers : goal.returns-clause-offers
returns-clause-offers g c t =
    gains_both (OffersIn (helds c.args.clients.now.items) (offers_of c.args.clients.now.items)) (g.N.Net.trace c.args.net.now) (g.N.Net.trace c.step_for.new.net) (g.N.Net.trace c.finish.new.net)
    (place_offers c.args.link.0 c.args.clients.now.items c.in-Some.i c.conn_mut.result.now (place_as c.args.link.0 c.args.clients.now.items c.deref.result.now c.in-Some.i c.deref.ensures.value c.in-Some.ensures) (lent_at c.args.clients.now.items c.in-Some.i c.index_mut-client.result.now c.conn_mut.result.now c.conn_mut.ensures.value c.index_mut-client.ensures.value) c.requires.kept.rising (g.N.Net.trace c.args.net.now) (g.N.Net.trace c.step_for.new.net) (c.step_for.ensures.offers t))
    (gains_one (OffersIn (helds c.args.clients.now.items) (offers_of c.args.clients.now.items)) c.take_out.result.held.link (Close c.in-Some-step_for.ending) (g.N.Net.trace c.step_for.new.net) (g.N.Net.trace c.finish.new.net) (c.finish.ensures.trace t) tt)

pub returns-in_default-step_for-clause-places : goal.returns-in_default-step_for-clause-places
returns-in_default-step_for-clause-places g c = places_set c.args.clients.now.items c.args.places.now.items c.in-Some.i c.step_for.new.conn _ _ c.requires.places

pub take_out-requires-clause-places : goal.take_out-requires-clause-places
take_out-requires-clause-places g c = places_set c.args.clients.now.items c.args.places.now.items c.in-Some.i c.step_for.new.conn _ _ c.requires.places

pub returns-in_default-clause-compares : goal.returns-in_default-clause-compares
returns-in_default-clause-compares g c t f trace gained serves = omega arith

pub returns-in_default-step_for-clause-compares : goal.returns-in_default-step_for-clause-compares
returns-in_default-step_for-clause-compares g c t f trace gained serves = compares_open (event_of c.args.ready) (is_ready c.args.ready) c.args.link.0 c.args.planner.now.site c.args.clients.now.items c.conn_mut.result.now.held None g.N.Net.tells g.F.Files.tells (seen_as (g.F.Files.disk c.args.files.now) (g.F.Files.faults c.args.files.now) (g.F.Files.reads c.args.files.now)) (g.N.Net.trace c.args.net.now) (g.N.Net.trace c.step_for.new.net) trace c.args.steps.now c.step_for.new.steps
    (place_link c.args.link.0 c.args.clients.now.items c.in-Some.i c.conn_mut.result.now (place_as c.args.link.0 c.args.clients.now.items c.deref.result.now c.in-Some.i c.deref.ensures.value c.in-Some.ensures) (lent_at c.args.clients.now.items c.in-Some.i c.index_mut-client.result.now c.conn_mut.result.now c.conn_mut.ensures.value c.index_mut-client.ensures.value)) (place_kept c.args.link.0 c.args.clients.now.items c.in-Some.i c.conn_mut.result.now (place_as c.args.link.0 c.args.clients.now.items c.deref.result.now c.in-Some.i c.deref.ensures.value c.in-Some.ensures) (lent_at c.args.clients.now.items c.in-Some.i c.index_mut-client.result.now c.conn_mut.result.now c.conn_mut.ensures.value c.index_mut-client.ensures.value) c.requires.kept.rising) c.in_default-step_for.ensures.compares gained serves refl t f

pub returns-clause-compares : goal.returns-clause-compares
returns-clause-compares g c t f trace gained serves = compares_closed (event_of c.args.ready) (is_ready c.args.ready) c.args.link.0 c.args.planner.now.site c.args.clients.now.items c.conn_mut.result.now.held (Some c.in-Some-step_for.ending) g.N.Net.tells g.F.Files.tells (seen_as (g.F.Files.disk c.args.files.now) (g.F.Files.faults c.args.files.now) (g.F.Files.reads c.args.files.now)) (g.N.Net.trace c.args.net.now) (g.N.Net.trace c.step_for.new.net) trace c.args.steps.now c.step_for.new.steps
    (place_link c.args.link.0 c.args.clients.now.items c.in-Some.i c.conn_mut.result.now (place_as c.args.link.0 c.args.clients.now.items c.deref.result.now c.in-Some.i c.deref.ensures.value c.in-Some.ensures) (lent_at c.args.clients.now.items c.in-Some.i c.index_mut-client.result.now c.conn_mut.result.now c.conn_mut.ensures.value c.index_mut-client.ensures.value)) (place_kept c.args.link.0 c.args.clients.now.items c.in-Some.i c.conn_mut.result.now (place_as c.args.link.0 c.args.clients.now.items c.deref.result.now c.in-Some.i c.deref.ensures.value c.in-Some.ensures) (lent_at c.args.clients.now.items c.in-Some.i c.index_mut-client.result.now c.conn_mut.result.now c.conn_mut.ensures.value c.index_mut-client.ensures.value) c.requires.kept.rising) c.in-Some-step_for.ensures.compares gained serves c.in-Some-step_for.ending (g.N.Net.trace c.finish.new.net) refl
    (λ n. close_told c.take_out.result.held.link c.conn_mut.result.now.held.link c.in-Some-step_for.ending (g.N.Net.trace c.step_for.new.net) (g.N.Net.trace c.finish.new.net)
    (ap (λ (k : Connected). k.held.link) (taken_is c.args.clients.now.items c.in-Some.i c.step_for.new.conn c.take_out.result (place_below c.args.link.0 c.args.clients.now.items c.in-Some.i c.conn_mut.result.now (place_as c.args.link.0 c.args.clients.now.items c.deref.result.now c.in-Some.i c.deref.ensures.value c.in-Some.ensures) (lent_at c.args.clients.now.items c.in-Some.i c.index_mut-client.result.now c.conn_mut.result.now c.conn_mut.ensures.value c.index_mut-client.ensures.value)) c.take_out.ensures.value) ∙ c.step_for.ensures.link) (c.finish.ensures.trace n)) t f

pub returns-clause-bound : goal.returns-clause-bound
returns-clause-bound g c = omega (arith, c.in-Some-step_for.ensures.bound, wants_few (Some c.in-Some-step_for.ending))

pub returns-clause-wants : goal.returns-clause-wants
returns-clause-wants g c t = omega (arith, c.in-Some-step_for.ensures.bound, ap wanted_in (c.finish.ensures.trace t))

pub returns-in_default-clause-asks : goal.returns-in_default-clause-asks
returns-in_default-clause-asks g c t = asks_none (AsksIn (helds c.args.clients.now.items)) (g.N.Net.trace c.args.net.now) (g.N.Net.trace c.args.net.now) refl

pub returns-in_default-step_for-clause-asks : goal.returns-in_default-step_for-clause-asks
returns-in_default-step_for-clause-asks g c t = place_asks c.args.link.0 c.args.clients.now.items c.in-Some.i c.conn_mut.result.now (place_as c.args.link.0 c.args.clients.now.items c.deref.result.now c.in-Some.i c.deref.ensures.value c.in-Some.ensures) (lent_at c.args.clients.now.items c.in-Some.i c.index_mut-client.result.now c.conn_mut.result.now c.conn_mut.ensures.value c.index_mut-client.ensures.value) c.requires.kept.rising (g.N.Net.trace c.args.net.now) (g.N.Net.trace c.step_for.new.net) (c.step_for.ensures.asks t)

pub returns-clause-asks : goal.returns-clause-asks
returns-clause-asks g c t =
    asks_both (AsksIn (helds c.args.clients.now.items)) (g.N.Net.trace c.args.net.now) (g.N.Net.trace c.step_for.new.net) (g.N.Net.trace c.finish.new.net)
    (place_asks c.args.link.0 c.args.clients.now.items c.in-Some.i c.conn_mut.result.now (place_as c.args.link.0 c.args.clients.now.items c.deref.result.now c.in-Some.i c.deref.ensures.value c.in-Some.ensures) (lent_at c.args.clients.now.items c.in-Some.i c.index_mut-client.result.now c.conn_mut.result.now c.conn_mut.ensures.value c.index_mut-client.ensures.value) c.requires.kept.rising (g.N.Net.trace c.args.net.now) (g.N.Net.trace c.step_for.new.net) (c.step_for.ensures.asks t))
    (asks_one (AsksIn (helds c.args.clients.now.items)) c.take_out.result.held.link (Close c.in-Some-step_for.ending) (g.N.Net.trace c.step_for.new.net) (g.N.Net.trace c.finish.new.net) (c.finish.ensures.trace t) tt)
