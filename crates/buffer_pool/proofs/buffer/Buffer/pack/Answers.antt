use Rattle.std.proofs.Common.{◌-◌, ◌≤◌, length, sym, subst}
use Rattle.buffer_pool.proofs.Bytes.{packed, held_length}
use Rattle.buffer_pool.proofs.buffer.Buffer.pack.Goals as goal

pub returns : goal.returns
returns c =
    let b = c.self.inside in
    let fits : b.end ≤ length b.bytes = subst (λ k. b.end ≤ k) (sym c.self.told) c.self.invariant.1 in
    let bytes = packed b.start b.end b.bytes c.copy_within.new.self c.self.invariant.0 fits c.copy_within.ensures.after in
    rw (← c.self.view_is) (λ i. record { number = b.number; kind = b.kind; bytes = bytes i; room = 4096 - sym (held_length b.start b.end b.bytes fits) i })
