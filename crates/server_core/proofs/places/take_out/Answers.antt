use Rattle.std.proofs.Common.{◌∙◌, ap, arith}
use Rattle.connection.specs.Connection.{Connected}
use Rattle.server_core.proofs.Placed.{places_taken}
use Rattle.server_core.proofs.places.take_out.Goals as goal

pub returns-clause-places : goal.returns-clause-places
returns-clause-places c =
    places_taken c.args.clients.now.items c.args.places.now.items c.remove-client.new.self.items c.push_reserved.new.self.items c.args.i c.put-conn.new.self _ _ _ _ c.requires.places (omega (arith, c.requires.within))
    c.remove-client.ensures.by_index.2 c.push_reserved.ensures.items (ap (λ (k : Connected). k.numbers) c.put-conn.ensures.new ∙ c.nobody.ensures.numbers) c.remove-client.ensures.capacity c.push_reserved.ensures.capacity
