use Rattle.std.proofs.Common.{◌∙◌, ap, subst}
use Rattle.connection.specs.Connection.{Connected}
use Rattle.server_core.specs.Places.{AllFree}
use Rattle.server_core.proofs.Placed.{free_last, none_within, none_kept, places_put}
use Rattle.server_core.proofs.places.put_in.Goals as goal

pub close-no_file-requires : goal.close-no_file-requires
close-no_file-requires c =
    none_within c.args.store.now c.put-nobody.result
    (ap (λ (k : Connected). k.numbers) c.put-nobody.ensures.old ∙ free_last c.pop.new.self.items c.in-Some.place (subst AllFree c.in-Some.ensures.items c.requires.places.free)) c.requires.counted

pub returns-clause-places : goal.returns-clause-places
returns-clause-places c =
    places_put c.args.clients.now.items c.args.places.now.items c.push_reserved.new.self.items c.pop.new.self.items c.put-nobody.new.self c.in-Some.place _ _ _ _ c.requires.places c.push_reserved.ensures.items c.in-Some.ensures.items c.push_reserved.ensures.capacity c.pop.ensures.capacity

pub returns-clause-kept : goal.returns-clause-kept
returns-clause-kept c =
    none_kept c.args.store.now c.close-no_file.new.store c.put-nobody.result
    (ap (λ (k : Connected). k.numbers) c.put-nobody.ensures.old ∙ free_last c.pop.new.self.items c.in-Some.place (subst AllFree c.in-Some.ensures.items c.requires.places.free)) c.close-no_file.ensures.kept
