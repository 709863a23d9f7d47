use Rattle.std.proofs.Common.{◌≡◌, ℕ, ◌+◌, ◌-◌, ◌≤◌, List, ◌++◌, length, take, drop, refl, sym, ap, subst, ◌∙◌, arith}
use Rattle.buffer_pool.proofs.Bytes.{put_bytes}
use Rattle.buffer_pool.proofs.buffer.Buffer.fill.Goals as goal

room_left : (e n k : ℕ) → k ≡ n → 4096 - (e + n) ≡ 4096 - e - k
room_left e n k is = omega (arith, is)

-- the bytes that came stand right after what is held
came : (s e n : ℕ) (bs bs' src post : List ℕ) → s ≤ e → e ≤ length bs → length src ≡ n → bs' ≡ take e bs ++ (src ++ post) → drop s (take (e + n) bs') ≡ drop s (take e bs) ++ src
came s e n bs bs' src post low high size list =
    ap (λ l. drop s (take (e + n) l)) list
    ∙ ap (λ k. drop s (take (e + k) (take e bs ++ (src ++ post)))) (sym size)
    ∙ put_bytes s e bs src src post low high refl

pub returns-in-Ok : goal.returns-in-Ok
returns-in-Ok g c =
    let b = c.self.inside in let src = c.read_into.ensures.bytes in let size = c.read_into.ensures.size in
    let fits : b.end ≤ length b.bytes = subst (λ k. b.end ≤ k) (sym c.self.told) c.self.invariant.1 in
    let bytes = came b.start b.end c.args.n b.bytes c.read_into.new.buf src (drop (b.end + c.args.n) b.bytes) c.self.invariant.0 fits size c.read_into.ensures.list in
    record {
      bytes = src;
      size = size;
      answers = rw (← c.in-Ok.is) c.read_into.ensures.answers;
      ok = rw (← c.self.view_is) (λ i. record { number = b.number; kind = b.kind; bytes = bytes i; room = room_left b.end c.args.n (length src) size i });
      err = tt;
    }
