use Rattle.std.proofs.Common.{◌≡◌, ℕ, ◌<◌, List, length, get_or, false, sym, ◌∙◌, ap, arith}
use Rattle.mio_net.specs.Turns.{stands_in}
use Rattle.mio_net.proofs.Waiting.{flag_joins, once_joins, spare_joins}
use Rattle.mio_net.proofs.queue.Queue.join.Goals as goal

pub invariant_of-self : goal.invariant_of-self
invariant_of-self c =
    let below : c.args.number < length c.self.inside.waits.items = omega (arith, c.self.invariant.flags, c.requires, c.self.inside.waits.ok.0) in
    let unset : get_or c.self.inside.waits.items c.args.number false ≡ false = sym (ap (λ d. get_or c.self.inside.waits.items c.args.number d) c.if-index.false) ∙ sym c.index.ensures ∙ c.if-index.false in
    record {
      flags = c.self.invariant.flags;
      same = λ n. flag_joins _ _ n c.args.number below (c.self.invariant.same n) ∙ ap (stands_in n) (sym {A = List ℕ} c.push_back_reserved.ensures.items);
      once = rw c.push_back_reserved.ensures.items (once_joins _ _ c.self.invariant.once (sym (c.self.invariant.same c.args.number) ∙ unset));
      room = omega (arith, c.push_back_reserved.ensures.len, c.self.invariant.room, spare_joins _ _ below unset);
      reserved = omega (arith, c.push_back_reserved.ensures.capacity, c.self.invariant.reserved);
    }
