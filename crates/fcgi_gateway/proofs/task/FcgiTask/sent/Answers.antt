use Rattle.std.proofs.Common.{◌≡◌, ◌≤◌, ◌||◌, ℕ, ltb, List, length, take, drop, ap, sym, ◌∙◌, subst}
use Rattle.chunkqueue.specs.Items.{items_of, front_of, staged_of}
use Rattle.fcgi_records.specs.Feeding.{bytes_of}
use Rattle.fcgi_records.proofs.FeedingLemmas.{bytes_count}
use Rattle.fcgi_gateway.specs.Sending.{offer_of}
use Rattle.fcgi_gateway.specs.Task.{Task}
use Rattle.fcgi_gateway.proofs.Buffers.{first_kept}
use Rattle.fcgi_gateway.proofs.SentLemmas.{IsSent, sent_is, sent_at, offer_leads, offered_room}
use Rattle.fcgi_gateway.proofs.task.FcgiTask.sent.Goals as goal

pub invariant_of-self : goal.invariant_of-self
invariant_of-self c =
    let offered : c.args.n ≤ length (offer_of c.self.inside.lead (front_of c.self.inside.body) c.self.inside.sending) =
    subst (λ (l : List ℕ). c.args.n ≤ length l) (sym (ap (λ (x : Task). x.offer) c.self.view_is)) c.requires.offered in
    let sent : IsSent c.self.inside.sending c.after-self-inside.result c.self.inside.lead (bytes_of c.self.inside.body) (bytes_of c.take_content.new.body) c.args.n =
    sent_is c.self.inside.sending c.after-self-inside.result c.self.inside.lead (bytes_of c.self.inside.body) (bytes_of c.take_content.new.body) c.args.n c.len.result c.len-2.result
    c.after-self-inside.ensures c.len.ensures (c.len-2.ensures.count ∙ sym (bytes_count (items_of c.take_content.new.body) c.take_content.ensures.memory)) c.take_content.ensures.body c.self.invariant.sending
    (offered_room c.self.inside.sending c.self.inside.lead (front_of c.self.inside.body) (bytes_of c.self.inside.body) c.args.n c.self.invariant.sending offered) in
    record { body = c.take_content.ensures.memory; out = c.self.invariant.out; sending = sent.sound }

pub returns-clause-stands : goal.returns-clause-stands
returns-clause-stands c =
    let offered : c.args.n ≤ length (offer_of c.self.inside.lead (front_of c.self.inside.body) c.self.inside.sending) =
    subst (λ (l : List ℕ). c.args.n ≤ length l) (sym (ap (λ (x : Task). x.offer) c.self.view_is)) c.requires.offered in
    let sent : IsSent c.self.inside.sending c.after-self-inside.result c.self.inside.lead (bytes_of c.self.inside.body) (bytes_of c.take_content.new.body) c.args.n =
    sent_is c.self.inside.sending c.after-self-inside.result c.self.inside.lead (bytes_of c.self.inside.body) (bytes_of c.take_content.new.body) c.args.n c.len.result c.len-2.result
    c.after-self-inside.ensures c.len.ensures (c.len-2.ensures.count ∙ sym (bytes_count (items_of c.take_content.new.body) c.take_content.ensures.memory)) c.take_content.ensures.body c.self.invariant.sending
    (offered_room c.self.inside.sending c.self.inside.lead (front_of c.self.inside.body) (bytes_of c.self.inside.body) c.args.n c.self.invariant.sending offered) in
    λ asks e is.
    sent_at asks e c.args.self.now _ c.args.n is
    (record {
      unsent = sent.unsent ∙ ap (λ (x : Task). drop c.args.n x.unsent) c.self.view_is;
      begun = c.has_begun-self-inside.ensures ∙ ap (λ (x : Task). x.begun || ltb 0 c.args.n) c.self.view_is;
      over = ap (λ (x : Task). x.over) c.self.view_is;
      stands = ap (λ (x : Task). x.stands) c.self.view_is;
      stdout = ap (λ (x : Task). x.stdout) c.self.view_is;
      heard = ap (λ (x : Task). x.heard) c.self.view_is;
    })
    c.requires.offered
    (subst (λ (x : Task). x.offer ≡ take (length x.offer) x.unsent) c.self.view_is
    (offer_leads c.self.inside.sending c.self.inside.lead (front_of c.self.inside.body) (staged_of c.self.inside.body) (items_of c.self.inside.body) c.self.invariant.body c.take_content.ensures.leads c.self.invariant.sending))

pub returns-clause-kept : goal.returns-clause-kept
returns-clause-kept c =
    first_kept c.args.store.now c.take_content.new.store c.args.self.now.numbers c.self.inside.body.numbers c.self.inside.out.numbers c.take_content.new.body.numbers (ap (λ (x : Task). x.numbers) c.self.view_is) c.take_content.ensures.kept
