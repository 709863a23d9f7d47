use Rattle.std.proofs.Common.{List, Bool, get_or, false, sym, ◌∙◌, ap, arith}
use Rattle.mio_net.specs.Turns.{stands_in}
use Rattle.mio_net.proofs.Waiting.{none_set, all_spare}
use Rattle.mio_net.proofs.queue.Queue.new.Goals as goal

pub invariant_of-result : goal.invariant_of-result
invariant_of-result c = record {
  flags = c.in-Ok.ensures.len;
  same = λ n. ap (λ (flags : List Bool). get_or flags n false) (c.in-Ok.ensures.items_if_clones_equal (λ y is. is)) ∙ none_set 8193 n ∙ ap (stands_in n) (sym c.in-Ok-with_capacity.ensures.items);
  once = rw c.in-Ok-with_capacity.ensures.items tt;
  room = omega (arith, c.in-Ok.ensures.len, c.in-Ok-with_capacity.ensures.len, all_spare c.in-Ok.waits.items, c.in-Ok.waits.ok.0);
  reserved = omega (arith, c.in-Ok-with_capacity.ensures.capacity);
}
