use Rattle.std.proofs.Common.{◌≡◌, ℕ, List, length, take, ap, sym, ◌∙◌, subst}
use Rattle.chunkqueue.specs.Items.{items_of, front_of, staged_of}
use Rattle.fcgi_gateway.specs.Sending.{offer_of}
use Rattle.fcgi_gateway.specs.Task.{Task}
use Rattle.fcgi_gateway.specs.declared.sending.Sending.TheVariants as next
use Rattle.fcgi_gateway.proofs.SentLemmas.{offer_leads}
use Rattle.fcgi_gateway.proofs.task.FcgiTask.to_send.Goals as goal

pub returns-in-Content-clause-leads : goal.returns-in-Content-clause-leads
returns-in-Content-clause-leads c =
    let is : c.self.inside.sending ≡ next.Content c.in-Content.left = cc c.in-Content.is in
    let offer : c.front_within.result.now ≡ c.args.self.now.offer =
    c.front_within.ensures.front ∙ sym (ap (offer_of c.self.inside.lead (front_of c.self.inside.body)) is) ∙ ap (λ (x : Task). x.offer) c.self.view_is in
    subst (λ (l : List ℕ). l ≡ take (length l) c.args.self.now.unsent) (sym offer)
    (subst (λ (x : Task). x.offer ≡ take (length x.offer) x.unsent) c.self.view_is
    (offer_leads c.self.inside.sending c.self.inside.lead (front_of c.self.inside.body) (staged_of c.self.inside.body) (items_of c.self.inside.body) c.self.invariant.body c.front_within.ensures.leads c.self.invariant.sending))
