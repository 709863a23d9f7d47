use Rattle.std.proofs.Common.{length-append, arith, ap, sym, ◌∙◌}
use Rattle.buffer_pool.proofs.Keeping.{kept_both}
use Rattle.proxy_message.specs.Progress.{answer_from}
use Rattle.proxy_message.proofs.FeedingLemmas.{takes_more, memory_after, counts_after, Ended, ended_over, ended_empty, unless}
use Rattle.proxy_message.proofs.answer.AnswerReader.feed.Goals as goal
use Rattle.proxy_message.proofs.answer.AnswerReader.feed.Goals.{then-loop-input-test+else-len-gt0, else-loop-input-test}

pub loop-input-preserved : goal.loop-input-preserved
loop-input-preserved c =
    let had = c.loop-input.invariant in
    let took = c.take.ensures in
    let few = counts_after c.loop-input.self c.take.new.self c.loop-input.input c.loop-input.body c.take.new.input c.take.new.body took.takes in
    record {
      takes = takes_more c.args.self.now c.loop-input.self c.take.new.self c.args.input.now c.args.body.now c.loop-input.input c.loop-input.body c.take.new.input c.take.new.body had.takes took.takes;
      kept = kept_both c.args.store.now c.loop-input.store c.take.new.store _ _ _ had.kept took.kept;
      memory = memory_after c.loop-input.self c.take.new.self c.loop-input.input c.loop-input.body c.take.new.input c.take.new.body took.takes had.memory;
      held = omega (arith, took.kept.total, took.kept.rises, had.held, length-append c.loop-input.body.numbers c.loop-input.input.numbers, length-append c.take.new.body.numbers c.take.new.input.numbers);
      fits = omega (arith, few.1, had.fits);
      filled = omega (arith, took.filled, had.filled);
    }

pub returns-in-Err-clause-takes : goal.returns-in-Err-clause-takes
returns-in-Err-clause-takes c =
    takes_more c.args.self.now c.loop-input.self c.take.new.self c.args.input.now c.args.body.now c.loop-input.input c.loop-input.body c.take.new.input c.take.new.body c.loop-input.invariant.takes c.take.ensures.takes

ends : (c : goal.After-answer) → Ended c.args.self.now c.args.input.now c.args.body.now c.loop-input.self c.loop-input.input c.loop-input.body
ends c = elim c.loop-input-test.branch [
  | then-loop-input-test+else-len-gt0 w ↦ ended_empty c.args.self.now c.loop-input.self c.args.input.now c.args.body.now c.loop-input.input c.loop-input.body c.loop-input.invariant.takes (omega (arith, w.if-len-gt0.false, w.len.ensures.count))
  | else-loop-input-test w ↦ ended_over c.args.self.now c.loop-input.self c.args.input.now c.args.body.now c.loop-input.input c.loop-input.body c.loop-input.invariant.takes (sym w.loop-input-test.ensures)
]

pub returns-clause-answer : goal.returns-clause-answer
returns-clause-answer c = unless c.answer.result _ (c.answer.ensures ∙ ap (λ p. answer_from p.stage) (ends c).stands)

pub returns-clause-stands : goal.returns-clause-stands
returns-clause-stands c = unless c.answer.result _ (ends c).stands

pub returns-clause-content : goal.returns-clause-content
returns-clause-content c = unless c.answer.result _ (ends c).gained

pub returns-clause-rest : goal.returns-clause-rest
returns-clause-rest c = unless c.answer.result _ (ends c).rest
