use Rattle.std.proofs.Common.{arith, refl}
use Rattle.lt_world.specs.Trace.{own}
use Rattle.script_net.specs.declared.links.Links.TheInside.{Inside}
use Rattle.script_net.specs.declared.notes.Done.TheVariants as done
use Rattle.script_net.specs.Sides.{with_bytes}
use Rattle.script_net.specs.PortView.{PortView, kept_at}
use Rattle.script_net.specs.Notes.{trace_of}
use Rattle.script_net.proofs.Becoming.{kept_there, keeps_set, given_more}
use Rattle.script_net.proofs.Telling.{tells_set}
use Rattle.script_net.proofs.links.Links.give.Goals as goal

pub invariant_of-self-2 : goal.invariant_of-self-2
invariant_of-self-2 c =
    let now : Inside = record { ports = c.give_at.new.ports; notes = c.push_reserved.new.self } in
    let kept : PortView = kept_at c.args.link c.self.inside.ports.items in
    keeps_set c.self.inside now c.args.link done.Readable (record kept { side = with_bytes c.args.bytes.now kept.side }) c.self.invariant (kept_there c.self.inside _ c.args.link c.self.view_is c.requires.known)
    c.in_ok-give_at.ensures.ok c.push_reserved.ensures.items (given_more kept c.args.bytes.now (own c.args.link (trace_of c.self.inside.ports.items c.self.inside.notes.items)) (c.self.invariant.taken c.args.link) (c.self.invariant.ending c.args.link))

pub returns-clause-ok : goal.returns-clause-ok
returns-clause-ok c =
    let now : Inside = record { ports = c.give_at.new.ports; notes = c.push_reserved.new.self } in
    let kept : PortView = kept_at c.args.link c.self.inside.ports.items in
    tells_set c.self.inside now _ c.args.link done.Readable (record kept { side = with_bytes c.args.bytes.now kept.side }) (with_bytes c.args.bytes.now) 0 c.self.invariant c.self.view_is (kept_there c.self.inside _ c.args.link c.self.view_is c.requires.known)
    c.in_ok-give_at.ensures.ok c.push_reserved.ensures.items (omega (arith, c.push_reserved.ensures.len, c.push_reserved.ensures.capacity)) ((given_more kept c.args.bytes.now (own c.args.link (trace_of c.self.inside.ports.items c.self.inside.notes.items)) (c.self.invariant.taken c.args.link) (c.self.invariant.ending c.args.link)).grows) refl (omega arith)
