use Rattle.std.proofs.Common.{◌≡◌, ◌≤◌, drop}
use Rattle.buffer_pool.specs.Kept.{Kept}
use Rattle.chunkqueue.specs.Items.{items_of, count_of}
use Rattle.fcgi_records.specs.Feeding.{AllInMemory}
use Rattle.fcgi_gateway.proofs.handing.skip.Given as goal

abbrev pub invariant-loop-left : goal.invariant-loop-left
invariant-loop-left l = record {
  memory : AllInMemory (items_of l.queue);
  within : l.left ≤ count_of l.queue;
  items : drop l.left (items_of l.queue) ≡ drop l.n (items_of l.initial.queue);
  filled : l.store.filled ≡ l.initial.store.filled;
  kept : Kept l.initial.store l.initial.queue.numbers l.store l.queue.numbers;
}

abbrev pub decreases-loop-left : goal.decreases-loop-left
decreases-loop-left l = l.left
