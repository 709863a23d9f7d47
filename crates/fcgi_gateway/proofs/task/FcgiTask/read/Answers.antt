use Rattle.std.proofs.Common.{◌≡◌, List, length, ap, sym, subst, refl, arith}
use Rattle.chunkqueue.specs.Items.{items_of}
use Rattle.fcgi_records.specs.Reading.{state_after}
use Rattle.fcgi_records.proofs.FeedingLemmas.{bytes_count}
use Rattle.fcgi_gateway.specs.Task.{Task, IsAt}
use Rattle.fcgi_gateway.proofs.Buffers.{second_kept}
use Rattle.fcgi_gateway.proofs.TaskLemmas.{read_at}
use Rattle.fcgi_gateway.proofs.task.FcgiTask.read.Goals as goal

pub feed-requires-clause-fits : goal.feed-requires-clause-fits
feed-requires-clause-fits c = omega (arith, c.requires.fits, ap (λ (x : Task). length x.stdout) c.self.view_is, bytes_count (items_of c.self.inside.out) c.self.invariant.out)

pub returns-in_err-answered-clause-kept : goal.returns-in_err-answered-clause-kept
returns-in_err-answered-clause-kept c = second_kept c.args.store.now c.feed.new.store c.args.self.now.numbers c.self.inside.body.numbers c.self.inside.out.numbers c.feed.new.out.numbers (ap (λ (x : Task). x.numbers) c.self.view_is) c.feed.ensures.kept

pub returns-in_err-self-inside-clause-kept : goal.returns-in_err-self-inside-clause-kept
returns-in_err-self-inside-clause-kept c = second_kept c.args.store.now c.feed.new.store c.args.self.now.numbers c.self.inside.body.numbers c.self.inside.out.numbers c.feed.new.out.numbers (ap (λ (x : Task). x.numbers) c.self.view_is) c.feed.ensures.kept

pub returns-clause-kept : goal.returns-clause-kept
returns-clause-kept c = second_kept c.args.store.now c.feed.new.store c.args.self.now.numbers c.self.inside.body.numbers c.self.inside.out.numbers c.feed.new.out.numbers (ap (λ (x : Task). x.numbers) c.self.view_is) c.feed.ensures.kept

pub returns-clause-stands : goal.returns-clause-stands
returns-clause-stands c = λ asks e is.
    read_at asks e _ _ c.args.bytes.now (subst (IsAt asks e) (sym c.self.view_is) is) (record {
      unsent = refl;
      begun = refl;
      over = refl;
      stands = c.in_ok-answered.ensures.stands;
      stdout = c.in_ok-answered.ensures.stdout;
      heard = c.in_ok-self-inside.ensures (state_after c.self.inside.reader c.args.bytes.now) c.in_ok-answered.ensures.answer;
    })
