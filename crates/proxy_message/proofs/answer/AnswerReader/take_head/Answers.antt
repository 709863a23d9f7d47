use Rattle.std.proofs.Common.{◌<◌, subst, take, length, length-take, arith}
use Rattle.chunkqueue.specs.Items.{staged_of}
use Rattle.proxy_message.specs.declared.progress.Progress.{Progress}
use Rattle.proxy_message.specs.Reading.{Passes}
use Rattle.proxy_message.proofs.ReadingLemmas.{head_passes}
use Rattle.proxy_message.proofs.FeedingLemmas.{head_reads}
use Rattle.proxy_message.proofs.answer.AnswerReader.take_head.Goals as goal

pub returns-clause-reads : goal.returns-clause-reads
returns-clause-reads c =
    let n = c.in_ok-progress.n in
    let front = c.front_bytes.result.now in
    let headed = c.in_ok-progress.ensures in
    let some : 0 < length (take n front) = omega (arith, length-take n front, headed.some, headed.within) in
    head_reads c.args.self.now c.in_ok-progress.progress c.args.input.now c.advance.new.self (staged_of c.args.input.now) front n c.requires.memory c.requires.some
    c.front_bytes.ensures.leads headed.within
    (subst (λ (p : Progress). Passes p (take n front) c.in_ok-progress.progress) c.self.view_is
    (head_passes c.self.inside.progress c.in_ok-progress.progress c.in-Head.held (take n front) c.in-Head.is some headed.passes))
    c.advance.ensures.items
