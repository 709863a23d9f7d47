use Rattle.std.proofs.Common.{◌≡◌, ◌≤◌, drop, true}
use Rattle.buffer_pool.specs.Kept.{Kept}
use Rattle.chunkqueue.specs.Items.{items_of, count_of}
use Rattle.server_model.specs.Steps.{is_in_memory}
use Rattle.connection.proofs.looking.skip.Given as goal

abbrev pub invariant-loop-left : goal.invariant-loop-left
invariant-loop-left l = record {
  memory : is_in_memory (items_of l.input) ≡ true;
  within : l.left ≤ count_of l.input;
  items : drop l.left (items_of l.input) ≡ drop l.n (items_of l.initial.input);
  filled : l.store.filled ≡ l.initial.store.filled;
  kept : Kept l.initial.store l.initial.input.numbers l.store l.input.numbers;
}

abbrev pub decreases-loop-left : goal.decreases-loop-left
decreases-loop-left l = l.left
