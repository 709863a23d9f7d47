use Rattle.proxy_message.proofs.ContentLemmas.{framed_takes, framed_less}
use Rattle.proxy_message.proofs.content.take_framed.Goals as goal

pub returns-in-Ok-clause-less : goal.returns-in-Ok-clause-less
returns-in-Ok-clause-less c = framed_less c.args.content.now c.args.input.now c.feed.new.input c.requires.memory c.requires.some c.requires.open c.in-Ok.ensures.rest

pub returns-in-Ok-clause-takes : goal.returns-in-Ok-clause-takes
returns-in-Ok-clause-takes c = λ p. framed_takes p c.args.content.now c.feed.new.self c.args.input.now c.args.body.now c.feed.new.input c.feed.new.body c.feed.ensures.takes

pub returns-in-Err-BadChunk-clause-less : goal.returns-in-Err-BadChunk-clause-less
returns-in-Err-BadChunk-clause-less c =
    framed_less c.args.content.now c.args.input.now c.feed.new.input c.requires.memory c.requires.some c.requires.open (rw c.in-Err-BadChunk.field-0-is at c.in-Err-BadChunk.ensures.rest)

pub returns-in-Err-BadChunk-clause-takes : goal.returns-in-Err-BadChunk-clause-takes
returns-in-Err-BadChunk-clause-takes c = λ p. framed_takes p c.args.content.now c.feed.new.self c.args.input.now c.args.body.now c.feed.new.input c.feed.new.body c.feed.ensures.takes

pub returns-in-Err-TooLarge-clause-less : goal.returns-in-Err-TooLarge-clause-less
returns-in-Err-TooLarge-clause-less c =
    framed_less c.args.content.now c.args.input.now c.feed.new.input c.requires.memory c.requires.some c.requires.open (rw c.in-Err-TooLarge.field-0-is at c.in-Err-TooLarge.ensures.rest)

pub returns-in-Err-TooLarge-clause-takes : goal.returns-in-Err-TooLarge-clause-takes
returns-in-Err-TooLarge-clause-takes c = λ p. framed_takes p c.args.content.now c.feed.new.self c.args.input.now c.args.body.now c.feed.new.input c.feed.new.body c.feed.ensures.takes

pub returns-in-Err-NoMemory-clause-takes : goal.returns-in-Err-NoMemory-clause-takes
returns-in-Err-NoMemory-clause-takes c = λ p. framed_takes p c.args.content.now c.feed.new.self c.args.input.now c.args.body.now c.feed.new.input c.feed.new.body c.feed.ensures.takes
