use Rattle.std.proofs.Common.{◌≡◌, ℕ, List, [], ap, sym, subst, refl, ◌∙◌}
use Rattle.buffer_pool.specs.Kept.{Kept}
use Rattle.chunkqueue.specs.Items.{Contents}
use Rattle.fcgi_records.specs.Feeding.{bytes_of}
use Rattle.fcgi_gateway.specs.Task.{Task}
use Rattle.fcgi_gateway.proofs.Buffers.{second_kept}
use Rattle.fcgi_gateway.proofs.OverLemmas.{forgotten}
use Rattle.fcgi_gateway.proofs.task.FcgiTask.forget.Goals as goal

pub returns-clause-stands : goal.returns-clause-stands
returns-clause-stands c = λ asks e is none.
    forgotten asks e c.args.self.now _ is none (ap (λ (x : Task). x.unsent) c.self.view_is) (ap (λ (x : Task). x.begun) c.self.view_is) refl c.new-self-inside.ensures (ap bytes_of c.empty_into.ensures.empty) refl

pub returns-clause-kept : goal.returns-clause-kept
returns-clause-kept c =
    second_kept c.args.store.now c.empty_into.new.store c.args.self.now.numbers c.self.inside.body.numbers c.self.inside.out.numbers c.empty_into.new.self.numbers (ap (λ (x : Task). x.numbers) c.self.view_is)
    (subst (λ (l : List ℕ). Kept c.args.store.now c.self.inside.out.numbers c.empty_into.new.store l) (sym (ap (λ (q : Contents). q.numbers) c.empty_into.ensures.empty)) c.empty_into.ensures.kept)
