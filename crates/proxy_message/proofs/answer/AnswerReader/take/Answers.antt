use Rattle.std.proofs.Common.{subst}
use Rattle.buffer_pool.proofs.Keeping.{kept_beside}
use Rattle.proxy_message.specs.declared.progress.Progress.{Progress}
use Rattle.proxy_message.specs.Progress.{with_stage}
use Rattle.proxy_message.specs.Feeding.{Takes}
use Rattle.proxy_message.proofs.FeedingLemmas.{takes_head}
use Rattle.proxy_message.proofs.answer.AnswerReader.take.Goals as goal

pub returns-then-is_head-clause-takes : goal.returns-then-is_head-clause-takes
returns-then-is_head-clause-takes c =
    takes_head c.args.self.now c.take_head.new.self c.args.input.now c.args.body.now c.take_head.new.input c.take_head.ensures.reads

pub returns-then-is_head-clause-kept : goal.returns-then-is_head-clause-kept
returns-then-is_head-clause-kept c =
    kept_beside c.args.store.now c.take_head.new.store c.args.body.now.numbers c.args.input.now.numbers c.take_head.new.input.numbers c.take_head.ensures.kept

pub returns-clause-takes : goal.returns-clause-takes
returns-clause-takes c =
    subst (λ (p : Progress). Takes p c.args.input.now c.args.body.now (with_stage c.self.inside.progress c.take.new.self) c.take.new.input c.take.new.body) c.self.view_is
    (c.take.ensures.takes c.self.inside.progress)
