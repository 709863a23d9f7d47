use Rattle.std.proofs.Common.{refl, sym}
use Rattle.std.proofs.lemmas.List.{set-get_or}
use Rattle.lt_world.specs.Trace.{own}
use Rattle.script_net.specs.declared.links.Links.TheInside.{Inside}
use Rattle.script_net.specs.declared.notes.Done.TheVariants as done
use Rattle.script_net.specs.PortView.{PortView, kept_at, no_kept}
use Rattle.script_net.specs.Notes.{trace_of}
use Rattle.script_net.proofs.Becoming.{kept_there, keeps_set, only_noted}
use Rattle.script_net.proofs.links.Links.ready.Goals as goal

pub invariant_of-self : goal.invariant_of-self
invariant_of-self c =
    let now : Inside = record { ports = c.self.inside.ports; notes = c.push_reserved.new.self } in
    let link = c.args.link in
    let kept : PortView = kept_at link c.self.inside.ports.items in
    keeps_set c.self.inside now link done.Readable kept c.self.invariant (kept_there c.self.inside _ link c.self.view_is c.requires.known)
    (sym (set-get_or c.self.inside.ports.items link no_kept)) c.push_reserved.ensures.items
    (only_noted done.Readable kept (own link (trace_of c.self.inside.ports.items c.self.inside.notes.items)) tt refl refl (c.self.invariant.taken link) (c.self.invariant.ending link))
