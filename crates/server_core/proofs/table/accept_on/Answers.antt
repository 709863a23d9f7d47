use Rattle.std.proofs.Common.{length, refl, ◌∷◌, [], ◌∙◌, ap, Some, arith}
use Rattle.server_model.specs.Site.{site_at}
use Rattle.server_model.specs.Steps.{arrived}
use Rattle.server_model.proofs.Changing.{table_on}
use Rattle.server_model.proofs.Arrivals.{turn_came, turn_full, came_backs, came_changes}
use Rattle.server_core.specs.Steps.{seen_as}
use Rattle.server_core.specs.Table.{helds, offers_of}
use Rattle.server_core.proofs.Listed.{helds_append, held_length}
use Rattle.server_core.proofs.Placed.{store_kept}
use Rattle.server_core.proofs.Tabled.{push_kept}
use Rattle.lt_world.specs.Trace.{Close}
use Rattle.lt_world.specs.declared.net.Ending.TheVariants as ending
use Rattle.server_core.specs.Asks.{AsksIn}
use Rattle.server_core.proofs.Asking.{asks_none, asks_one}
use Rattle.server_core.specs.Offers.{OffersIn}
use Rattle.server_core.proofs.Offering.{gains_none, gains_one}
use Rattle.server_core.proofs.table.accept_on.Goals as goal

pub returns-then-len-ge-CONNECTION_LIMIT-clause-turn : goal.returns-then-len-ge-CONNECTION_LIMIT-clause-turn
returns-then-len-ge-CONNECTION_LIMIT-clause-turn g c = turn_full c.args.arrival.link.0 c.args.arrival.peer c.args.arrival.local c.args.planner.now.site (helds c.args.clients.now.items) (helds c.args.clients.now.items) g.N.Net.tells g.F.Files.tells (length c.args.store.now.free) (seen_as (g.F.Files.disk c.args.files.now) (g.F.Files.faults c.args.files.now) (g.F.Files.reads c.args.files.now)) (g.N.Net.trace c.args.net.now) (g.N.Net.trace c.close.new.self) (c.requires.table.below c.args.arrival.link.0 (omega arith))
    (omega (arith, held_length c.args.clients.now.items, c.len.ensures, c.if-len-ge-CONNECTION_LIMIT.true)) refl c.close.ensures.trace c.requires.backs

pub returns-clause-turn : goal.returns-clause-turn
returns-clause-turn g c = turn_came c.args.arrival.link.0 c.args.arrival.peer c.args.arrival.local c.args.planner.now.site (helds c.args.clients.now.items) (helds c.put_in.new.clients.items) g.N.Net.tells g.F.Files.tells (length c.args.store.now.free) (seen_as (g.F.Files.disk c.args.files.now) (g.F.Files.faults c.args.files.now) (g.F.Files.reads c.args.files.now)) (g.N.Net.trace c.args.net.now) (g.N.Net.trace c.args.net.now) (c.requires.table.below c.args.arrival.link.0 (omega arith))
    c.new.result.held c.new.ensures.held (ap helds c.put_in.ensures.items ∙ helds_append c.args.clients.now.items (c.new.result ∷ []))
    (omega (arith, held_length c.args.clients.now.items, c.len.ensures, c.if-len-ge-CONNECTION_LIMIT.false)) c.requires.backs

pub returns-clause-kept : goal.returns-clause-kept
returns-clause-kept g c = store_kept c.args.store.now c.put_in.new.store c.put_in.new.clients.items c.put_in.ensures.kept
    (push_kept c.args.arrival.link.0 c.args.arrival.peer c.args.arrival.local c.args.clients.now.items c.put_in.new.clients.items c.new.result c.new.ensures.held c.new.ensures.numbers c.put_in.ensures.items c.requires.table c.args.store.now c.requires.kept)

pub returns-clause-table : goal.returns-clause-table
returns-clause-table g c = table_on c.args.arrival.link.0 (g.N.Net.links c.args.net.now) c.args.arrival.link.0 (helds c.args.clients.now.items) (helds c.put_in.new.clients.items) (Some (arrived c.args.arrival.link.0 c.args.arrival.peer c.args.arrival.local)) c.requires.table
    (came_changes c.args.arrival.link.0 c.args.arrival.peer c.args.arrival.local (site_at []) (helds c.args.clients.now.items) (helds c.put_in.new.clients.items) g.N.Net.tells g.F.Files.tells (length c.args.store.now.free) (seen_as (g.F.Files.disk c.args.files.now) (g.F.Files.faults c.args.files.now) (g.F.Files.reads c.args.files.now)) (g.N.Net.trace c.args.net.now) (g.N.Net.trace c.args.net.now) (c.requires.table.below c.args.arrival.link.0 (omega arith))
    c.new.result.held c.new.ensures.held (ap helds c.put_in.ensures.items ∙ helds_append c.args.clients.now.items (c.new.result ∷ []))) (omega (arith, c.requires.known)) c.requires.known

pub returns-clause-backs : goal.returns-clause-backs
returns-clause-backs g c f = came_backs c.args.arrival.link.0 c.args.arrival.peer c.args.arrival.local (site_at []) (helds c.args.clients.now.items) (helds c.put_in.new.clients.items) g.N.Net.tells g.F.Files.tells (length c.args.store.now.free) (seen_as (g.F.Files.disk c.args.files.now) (g.F.Files.faults c.args.files.now) (g.F.Files.reads c.args.files.now)) (g.N.Net.trace c.args.net.now) (g.N.Net.trace c.args.net.now) (c.requires.table.below c.args.arrival.link.0 (omega arith))
    c.new.result.held c.new.ensures.held (ap helds c.put_in.ensures.items ∙ helds_append c.args.clients.now.items (c.new.result ∷ [])) (c.requires.backs f)

pub returns-then-len-ge-CONNECTION_LIMIT-clause-offers : goal.returns-then-len-ge-CONNECTION_LIMIT-clause-offers
returns-then-len-ge-CONNECTION_LIMIT-clause-offers g c t = gains_one (OffersIn (helds c.args.clients.now.items) (offers_of c.args.clients.now.items)) c.args.arrival.link.0 (Close ending.Full) (g.N.Net.trace c.args.net.now) (g.N.Net.trace c.close.new.self) (c.close.ensures.trace t) tt

pub returns-clause-offers : goal.returns-clause-offers
returns-clause-offers g c t = gains_none (OffersIn (helds c.args.clients.now.items) (offers_of c.args.clients.now.items)) (g.N.Net.trace c.args.net.now) (g.N.Net.trace c.args.net.now) refl

pub put_in-requires-clause-within : goal.put_in-requires-clause-within
put_in-requires-clause-within g c = omega (arith, c.len.ensures, c.if-len-ge-CONNECTION_LIMIT.false)

pub put_in-requires-clause-counted : goal.put_in-requires-clause-counted
put_in-requires-clause-counted g c = omega (arith, c.requires.kept.counted)

pub returns-then-len-ge-CONNECTION_LIMIT-clause-asks : goal.returns-then-len-ge-CONNECTION_LIMIT-clause-asks
returns-then-len-ge-CONNECTION_LIMIT-clause-asks g c t = asks_one (AsksIn (helds c.args.clients.now.items)) c.args.arrival.link.0 (Close ending.Full) (g.N.Net.trace c.args.net.now) (g.N.Net.trace c.close.new.self) (c.close.ensures.trace t) tt

pub returns-clause-asks : goal.returns-clause-asks
returns-clause-asks g c t = asks_none (AsksIn (helds c.args.clients.now.items)) (g.N.Net.trace c.args.net.now) (g.N.Net.trace c.args.net.now) refl
