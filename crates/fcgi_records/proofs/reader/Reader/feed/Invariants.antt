use Rattle.std.proofs.Common.{◌+◌, ◌<◌, ◌≤◌, ◌^◌, ◌++◌, length}
use Rattle.buffer_pool.specs.Kept.{Kept, HeldWithin}
use Rattle.chunkqueue.specs.Items.{items_of, count_of}
use Rattle.fcgi_records.specs.Feeding.{AllInMemory, Takes}
use Rattle.fcgi_records.proofs.reader.Reader.feed.Given as goal

abbrev pub invariant-loop-input : goal.invariant-loop-input
invariant-loop-input l = record {
  takes : Takes l.initial.self l.initial.input l.initial.out l.self l.input l.out;
  kept : Kept l.initial.store (l.initial.out.numbers ++ l.initial.input.numbers) l.store (l.out.numbers ++ l.input.numbers);
  memory : AllInMemory (items_of l.input);
  held : HeldWithin l.store (length l.out.numbers + length l.input.numbers);
  fits : count_of l.out + count_of l.input < 2 ^ 63;
  filled : l.store.filled + count_of l.input ≤ l.initial.store.filled + count_of l.initial.input;
}

abbrev pub decreases-loop-input : goal.decreases-loop-input
decreases-loop-input l = count_of l.input
