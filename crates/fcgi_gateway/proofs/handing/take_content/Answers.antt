use Rattle.std.proofs.Common.{◌≡◌, ap, sym, ◌∙◌, subst}
use Rattle.chunkqueue.specs.Items.{items_of, memory_front}
use Rattle.fcgi_records.specs.Feeding.{AllInMemory, bytes_of}
use Rattle.fcgi_records.proofs.FeedingLemmas.{memory_drop}
use Rattle.fcgi_gateway.specs.Sending.{body_after}
use Rattle.fcgi_gateway.specs.declared.sending.Sending.TheVariants as next
use Rattle.fcgi_gateway.proofs.SentLemmas.{front_drop}
use Rattle.fcgi_gateway.proofs.handing.take_content.Goals as goal

pub returns-in-Content-clause-body : goal.returns-in-Content-clause-body
returns-in-Content-clause-body c =
    let is : c.args.sending ≡ next.Content c.in-Content.field-0 = cc c.in-Content.is in
    ap memory_front c.advance.ensures.items ∙ front_drop c.args.n (items_of c.args.body.now) c.requires.memory ∙ sym (ap (body_after c.args.n (bytes_of c.args.body.now)) is)

pub returns-in-Content-clause-memory : goal.returns-in-Content-clause-memory
returns-in-Content-clause-memory c = subst AllInMemory (sym c.advance.ensures.items) (memory_drop c.args.n (items_of c.args.body.now) c.requires.memory)
