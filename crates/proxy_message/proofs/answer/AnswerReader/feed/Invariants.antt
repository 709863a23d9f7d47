use Rattle.std.proofs.Common.{◌+◌, ◌<◌, ◌≤◌, ◌^◌, ◌++◌, length}
use Rattle.buffer_pool.specs.Kept.{Kept, HeldWithin}
use Rattle.chunkqueue.specs.Items.{items_of, count_of}
use Rattle.lt_http_body.specs.Feeding.{AllInMemory}
use Rattle.proxy_message.specs.Feeding.{Takes}
use Rattle.proxy_message.proofs.answer.AnswerReader.feed.Given as goal

abbrev pub invariant-loop-input : goal.invariant-loop-input
invariant-loop-input l = record {
  takes : Takes l.initial.self l.initial.input l.initial.body l.self l.input l.body;
  kept : Kept l.initial.store (l.initial.body.numbers ++ l.initial.input.numbers) l.store (l.body.numbers ++ l.input.numbers);
  memory : AllInMemory (items_of l.input);
  held : HeldWithin l.store (length l.body.numbers + length l.input.numbers);
  fits : count_of l.body + count_of l.input < 2 ^ 63;
  filled : l.store.filled + count_of l.input ≤ l.initial.store.filled + count_of l.initial.input;
}

abbrev pub decreases-loop-input : goal.decreases-loop-input
decreases-loop-input l = count_of l.input
