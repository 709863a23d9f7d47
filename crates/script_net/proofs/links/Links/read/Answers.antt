use Rattle.std.proofs.Common.{◌≡◌, ◌<◌, ◌≤◌, length, arith, refl, subst, ℕ}
use Rattle.lt_world.specs.Trace.{own}
use Rattle.script_net.specs.declared.links.Links.TheInside.{Inside}
use Rattle.script_net.specs.Sides.{with_read}
use Rattle.script_net.specs.Noted.{read_done}
use Rattle.script_net.specs.PortView.{PortView, kept_at}
use Rattle.script_net.specs.Notes.{trace_of}
use Rattle.script_net.proofs.Becoming.{kept_there, keeps_set, is_kept_at, is_read, read_act_of, stays}
use Rattle.script_net.proofs.Telling.{tells_set, tells_act}
use Rattle.script_net.proofs.links.Links.read.Goals as goal

-- what is known of the link's place
record Place (kept : PortView) (at : ℕ) : Type 0 where
  seen : at ≡ kept.side.seen
  within : at ≤ length kept.side.given

placed : (port kept : PortView) (at : ℕ) → port ≡ kept → at ≡ port.side.seen → at ≤ length port.side.given → Place kept at
placed port kept at same seen within = subst (λ (q : PortView). Place q at) same (record { seen = seen; within = within })

pub invariant_of-self : goal.invariant_of-self
invariant_of-self c =
    let now : Inside = record { ports = c.read_at-got.new.ports; notes = c.push_reserved.new.self } in
    let kept : PortView = kept_at c.args.link c.self.inside.ports.items in
    let below : c.args.link < length c.self.inside.ports.items = kept_there c.self.inside _ c.args.link c.self.view_is c.requires.known in
    let place : Place kept c.seen-at.result = placed c.index.result.now kept c.seen-at.result (is_kept_at c.self.inside.ports.items c.args.link c.index.result.now below c.index.ensures) c.seen-at.ensures.seen c.seen-at.ensures.within in
    keeps_set c.self.inside now c.args.link (read_done c.read_at-got.result (length c.args.buf.now) c.seen-at.result) (record kept { side = with_read (length c.args.buf.now) kept.side }) c.self.invariant below
    c.read_at-got.ensures.rest (rw c.read_done.ensures at c.push_reserved.ensures.items)
    (is_read c.read_at-got.result kept c.read_at-got.new.buf (length c.args.buf.now) c.seen-at.result (own c.args.link (trace_of c.self.inside.ports.items c.self.inside.notes.items))
    (omega arith) place.seen place.within (rw c.read_at-got.auto.buf at c.read_at-got.ensures.within) c.read_at-got.ensures.act (c.self.invariant.taken c.args.link) (c.self.invariant.ending c.args.link))

pub returns-clause-tells : goal.returns-clause-tells
returns-clause-tells c =
    let now : Inside = record { ports = c.read_at-got.new.ports; notes = c.push_reserved.new.self } in
    let kept : PortView = kept_at c.args.link c.self.inside.ports.items in
    let next : PortView = record kept { side = with_read (length c.args.buf.now) kept.side } in
    let below : c.args.link < length c.self.inside.ports.items = kept_there c.self.inside _ c.args.link c.self.view_is c.requires.known in
    let place : Place kept c.seen-at.result = placed c.index.result.now kept c.seen-at.result (is_kept_at c.self.inside.ports.items c.args.link c.index.result.now below c.index.ensures) c.seen-at.ensures.seen c.seen-at.ensures.within in
    tells_act c.args.link _ _ _ 0 _ _
    (read_act_of c.read_at-got.result kept c.read_at-got.new.buf (length c.args.buf.now) c.seen-at.result (omega arith) place.seen place.within (rw c.read_at-got.auto.buf at c.read_at-got.ensures.within) c.read_at-got.ensures.act)
    (tells_set c.self.inside now _ c.args.link (read_done c.read_at-got.result (length c.args.buf.now) c.seen-at.result) next (with_read (length c.args.buf.now)) 0 c.self.invariant c.self.view_is below
    c.read_at-got.ensures.rest (rw c.read_done.ensures at c.push_reserved.ensures.items) (omega (arith, c.push_reserved.ensures.len, c.push_reserved.ensures.capacity)) (stays kept next.side refl) refl (omega arith))
