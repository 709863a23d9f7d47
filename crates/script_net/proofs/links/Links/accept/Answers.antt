use Rattle.std.proofs.Common.{◌≡◌, ◌++◌, ◌∷◌, [], length, arith}
use Rattle.std.proofs.lemmas.Grind.{common_steps}
use Rattle.script_net.specs.declared.links.Links.TheInside.{Inside}
use Rattle.script_net.specs.declared.notes.Done.TheVariants as done
use Rattle.script_net.specs.PortView.{fresh_kept}
use Rattle.script_net.proofs.Noting.{told_push}
use Rattle.script_net.proofs.Telling.{tells_push}
use Rattle.script_net.proofs.links.Links.accept.Goals as goal

pub invariant_of-self-2 : goal.invariant_of-self-2
invariant_of-self-2 c =
    let more : c.push.new.self.items ≡ c.self.inside.ports.items ++ fresh_kept ∷ [] = grind (arith, common_steps) in
    let noted : c.push_reserved.new.self.items ≡ c.self.inside.notes.items ++ record { link = length c.self.inside.ports.items; done = done.Accepted c.args.peer c.args.local } ∷ [] = grind (arith, common_steps) in
    rw (more, noted) (told_push c.self.inside.ports.items c.self.inside.notes.items c.args.peer c.args.local c.self.invariant (omega arith))

pub returns-clause-ok : goal.returns-clause-ok
returns-clause-ok c =
    let now : Inside = record { ports = c.push.new.self; notes = c.push_reserved.new.self } in
    let more : c.push.new.self.items ≡ c.self.inside.ports.items ++ fresh_kept ∷ [] = grind (arith, common_steps) in
    let noted : c.push_reserved.new.self.items ≡ c.self.inside.notes.items ++ record { link = length c.self.inside.ports.items; done = done.Accepted c.args.peer c.args.local } ∷ [] = grind (arith, common_steps) in
    tells_push c.self.inside now _ c.args.peer c.args.local c.self.invariant c.self.view_is more noted (omega (arith, c.push_reserved.ensures.len, c.push_reserved.ensures.capacity))
