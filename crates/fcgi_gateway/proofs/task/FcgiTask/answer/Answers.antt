use Rattle.std.proofs.Common.{◌≡◌, length, ap, ◌∙◌, arith}
use Rattle.chunkqueue.specs.Items.{items_of}
use Rattle.fcgi_records.proofs.FeedingLemmas.{bytes_count}
use Rattle.fcgi_gateway.specs.Task.{Task}
use Rattle.fcgi_gateway.proofs.Buffers.{answered_kept}
use Rattle.fcgi_gateway.proofs.TaskLemmas.{answer_is, handed}
use Rattle.fcgi_gateway.proofs.task.FcgiTask.answer.Goals as goal

pub hand_over-requires-clause-fits : goal.hand_over-requires-clause-fits
hand_over-requires-clause-fits c = omega (arith, c.requires.fits, ap (λ (x : Task). length x.stdout) c.self.view_is, bytes_count (items_of c.self.inside.out) c.self.invariant.out)

pub returns-clause-answer : goal.returns-clause-answer
returns-clause-answer c = λ asks e head content is result.
    handed (items_of c.self.inside.out) (items_of c.args.body.now) (items_of c.hand_over.new.into) c.self.inside.progress c.head-head.result head content c.self.invariant.out c.head-head.ensures
    (ap (λ (x : Task). x.heard) c.self.view_is ∙ answer_is asks e c.args.self head content is result) c.hand_over.ensures.items

pub returns-clause-moves : goal.returns-clause-moves
returns-clause-moves c = omega (arith, c.hand_over.ensures.moves, c.close.ensures.filled, ap (λ (x : Task). length x.stdout) c.self.view_is, bytes_count (items_of c.self.inside.out) c.self.invariant.out)

pub returns-clause-kept : goal.returns-clause-kept
returns-clause-kept c =
    answered_kept c.args.store.now c.close.new.store c.hand_over.new.store c.args.self.numbers c.self.inside.body.numbers c.self.inside.out.numbers c.args.body.now.numbers c.hand_over.new.into.numbers
    (ap (λ (x : Task). x.numbers) c.self.view_is) c.close.ensures.kept c.hand_over.ensures.kept
