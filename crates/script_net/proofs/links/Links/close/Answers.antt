use Rattle.std.proofs.Common.{arith, refl, Some}
use Rattle.lt_world.specs.Trace.{own}
use Rattle.script_net.specs.declared.links.Links.TheInside.{Inside}
use Rattle.script_net.specs.declared.notes.Done.TheVariants as done
use Rattle.script_net.specs.Sides.{with_close}
use Rattle.script_net.specs.PortView.{PortView, kept_at}
use Rattle.script_net.specs.Notes.{trace_of}
use Rattle.script_net.proofs.Becoming.{kept_there, keeps_set, is_closed}
use Rattle.script_net.proofs.Telling.{tells_set}
use Rattle.script_net.proofs.links.Links.close.Goals as goal

pub invariant_of-self : goal.invariant_of-self
invariant_of-self c =
    let now : Inside = record { ports = c.close_at.new.ports; notes = c.push_reserved.new.self } in
    let kept : PortView = kept_at c.args.link c.self.inside.ports.items in
    keeps_set c.self.inside now c.args.link (done.Close c.args.ending) (record kept { side = with_close kept.side; ending = Some c.args.ending }) c.self.invariant (kept_there c.self.inside _ c.args.link c.self.view_is c.requires.known)
    c.close_at.ensures c.push_reserved.ensures.items (is_closed kept c.args.ending (own c.args.link (trace_of c.self.inside.ports.items c.self.inside.notes.items)) (c.self.invariant.taken c.args.link))

pub returns : goal.returns
returns c =
    let now : Inside = record { ports = c.close_at.new.ports; notes = c.push_reserved.new.self } in
    let kept : PortView = kept_at c.args.link c.self.inside.ports.items in
    tells_set c.self.inside now _ c.args.link (done.Close c.args.ending) (record kept { side = with_close kept.side; ending = Some c.args.ending }) with_close 0 c.self.invariant c.self.view_is (kept_there c.self.inside _ c.args.link c.self.view_is c.requires.known)
    c.close_at.ensures c.push_reserved.ensures.items (omega (arith, c.push_reserved.ensures.len, c.push_reserved.ensures.capacity)) ((is_closed kept c.args.ending (own c.args.link (trace_of c.self.inside.ports.items c.self.inside.notes.items)) (c.self.invariant.taken c.args.link)).grows) refl (omega arith)
