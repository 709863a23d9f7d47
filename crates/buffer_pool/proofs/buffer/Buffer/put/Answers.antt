use Rattle.std.proofs.Common.{◌≡◌, ℕ, ◌+◌, ◌-◌, ◌≤◌, length, sym, subst, arith}
use Rattle.buffer_pool.proofs.Bytes.{put_bytes}
use Rattle.buffer_pool.proofs.buffer.Buffer.put.Goals as goal

room_left : (e n : ℕ) → 4096 - (e + n) ≡ 4096 - e - n
room_left e n = omega arith

pub returns : goal.returns
returns c =
    let b = c.self.inside in let src = c.args.bytes.now in
    let fits : b.end ≤ length b.bytes = subst (λ k. b.end ≤ k) (sym c.self.told) c.self.invariant.1 in
    let bytes = put_bytes b.start b.end b.bytes src c.copy_from_slice.new.self _ c.self.invariant.0 fits c.copy_from_slice.ensures.after in
    rw (← c.self.view_is) (λ i. record { number = b.number; kind = b.kind; bytes = bytes i; room = room_left b.end (length src) i })
