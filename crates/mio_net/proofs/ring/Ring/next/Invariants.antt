use Rattle.std.proofs.Common.{◌≡◌, length, vec_len}
use Rattle.mio_net.specs.Turns.{from_set}
use Rattle.mio_net.proofs.ring.Ring.next.Given as goal

abbrev pub invariant-loop-number : goal.invariant-loop-number
invariant-loop-number l = record {
  all : vec_len l.self-inside.marked ≡ 8193;
  marks : l.self-inside.marked.items ≡ l.fn.self.marks;
  turns : from_set l.fn.self.marks l.self-inside.queue ≡ from_set l.fn.self.marks l.fn.self.waiting;
}

abbrev pub decreases-loop-number : goal.decreases-loop-number
decreases-loop-number l = length l.self-inside.queue
