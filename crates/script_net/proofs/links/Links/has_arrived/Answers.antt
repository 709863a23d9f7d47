use Rattle.std.proofs.Common.{◌≡◌, ◌∙◌, ap, arith, length, nat_lt, vec_len}
use Rattle.script_net.proofs.Noting.{arrived_below}
use Rattle.script_net.proofs.links.Links.has_arrived.Goals as goal

pub returns : goal.returns
returns c =
    let len : vec_len c.self.inside.ports ≡ length c.self.inside.ports.items = omega arith in
    rw (← c.self.view_is, c.len.ensures) (ap (nat_lt c.args.link) len ∙ arrived_below c.self.inside.ports.items c.self.inside.notes.items c.args.link c.self.invariant.named (c.self.invariant.arrived c.args.link))
