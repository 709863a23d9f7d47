use Rattle.std.proofs.Common.{◌≡◌, ◌<◌, ◌++◌, length, take, set, arith, refl, ap, ◌∙◌}
use Rattle.lt_world.specs.Trace.{own}
use Rattle.script_net.specs.declared.links.Links.TheInside.{Inside}
use Rattle.script_net.specs.Noted.{write_done}
use Rattle.script_net.specs.PortView.{PortView, kept_at}
use Rattle.script_net.specs.Notes.{trace_of}
use Rattle.script_net.proofs.Noting.{begins_all}
use Rattle.script_net.proofs.Becoming.{kept_there, keeps_set, is_kept_at, is_written, write_act_of}
use Rattle.script_net.proofs.Telling.{tells_set, tells_same, tells_act}
use Rattle.script_net.proofs.links.Links.write.Goals as goal

piece : (c : goal.After-push_reserved) → c.take_at.new.ports.items ≡ set c.self.inside.ports.items c.args.link
    (record (kept_at c.args.link c.self.inside.ports.items) { taken = (kept_at c.args.link c.self.inside.ports.items).taken ++ take c.args.n c.args.bytes.now; room = (kept_at c.args.link c.take_at.new.ports.items).room })
piece c = rw (← c.split_at.ensures.front) c.take_at.ensures.taken

pub invariant_of-self : goal.invariant_of-self
invariant_of-self c =
    let now : Inside = record { ports = c.take_at.new.ports; notes = c.push_reserved.new.self } in
    let link = c.args.link in
    let kept : PortView = kept_at link c.self.inside.ports.items in
    let room = (kept_at link c.take_at.new.ports.items).room in
    let below : link < length c.self.inside.ports.items = kept_there c.self.inside _ link c.self.view_is c.requires.known in
    let at : length c.taken-at.result.now ≡ length kept.taken = ap length c.taken-at.ensures ∙ ap (λ (q : PortView). length q.taken) (is_kept_at c.self.inside.ports.items link c.index.result.now below c.index.ensures) in
    let what = write_done (length c.args.bytes.now) (length c.taken-at.result.now) c.args.n in
    keeps_set c.self.inside now link what (record kept { taken = kept.taken ++ take c.args.n c.args.bytes.now; room = room }) c.self.invariant below
    (piece c) (rw c.write_done.ensures at c.push_reserved.ensures.items)
    (is_written c.args.n (length c.taken-at.result.now) kept c.args.bytes.now room (own link (trace_of c.self.inside.ports.items c.self.inside.notes.items)) c.requires.within at (c.self.invariant.taken link) (c.self.invariant.ending link))

pub returns : goal.returns
returns c =
    let now : Inside = record { ports = c.take_at.new.ports; notes = c.push_reserved.new.self } in
    let link = c.args.link in
    let kept : PortView = kept_at link c.self.inside.ports.items in
    let room = (kept_at link c.take_at.new.ports.items).room in
    let next : PortView = record kept { taken = kept.taken ++ take c.args.n c.args.bytes.now; room = room } in
    let below : link < length c.self.inside.ports.items = kept_there c.self.inside _ link c.self.view_is c.requires.known in
    let at : length c.taken-at.result.now ≡ length kept.taken = ap length c.taken-at.ensures ∙ ap (λ (q : PortView). length q.taken) (is_kept_at c.self.inside.ports.items link c.index.result.now below c.index.ensures) in
    let what = write_done (length c.args.bytes.now) (length c.taken-at.result.now) c.args.n in
    tells_act link _ _ _ c.args.n _ _ (write_act_of c.args.n (length c.taken-at.result.now) kept c.args.bytes.now room at)
    (tells_same link _ c.args.self.now.sides c.args.n _ _
    (tells_set c.self.inside now _ link what next (λ side. side) c.args.n c.self.invariant c.self.view_is below (piece c) (rw c.write_done.ensures at c.push_reserved.ensures.items)
    (omega (arith, c.push_reserved.ensures.len, c.push_reserved.ensures.capacity))
    (record { given = begins_all kept.side.given; taken = (take c.args.n c.args.bytes.now, refl) }) refl (omega (arith, c.take_at.ensures.room, c.split_at.ensures.front_len))))
