use Rattle.std.proofs.Common.{◌≡◌, ap, sym, subst, refl, ◌∙◌}
use Rattle.chunkqueue.specs.Items.{Contents, items_of}
use Rattle.cgi_text.specs.Request.{parts_of}
use Rattle.fcgi_records.specs.Feeding.{AllInMemory, bytes_of}
use Rattle.fcgi_records.proofs.FeedingLemmas.{bytes_count}
use Rattle.fcgi_gateway.proofs.TaskLemmas.{lead_some, begins, begins_at}
use Rattle.fcgi_gateway.proofs.task.FcgiTask.new.Goals as goal

pub invariant_of-result : goal.invariant_of-result
invariant_of-result c = record {
  body = subst (λ (q : Contents). AllInMemory (items_of q)) (sym c.replace.ensures.value) c.requires.memory;
  out = subst (λ (q : Contents). AllInMemory (items_of q)) (sym c.new-3.ensures.empty) tt;
  sending = lead_some c.bytes.result.now c.in_ok-lead.lead c.len.result c.in_ok-lead.ensures;
}

pub returns-clause-ok : goal.returns-clause-ok
returns-clause-ok c =
    begins_at _ _
    (begins (parts_of c.args.request.now) (bytes_of c.args.body.now) (bytes_of c.replace.result) c.in_ok-lead.lead c.bytes.result.now c.len.result c.in_ok-lead.ensures (c.bytes.ensures.value ∙ c.in_ok-params.ensures)
    (c.len.ensures.count ∙ sym (bytes_count (items_of c.args.body.now) c.requires.memory)) (ap bytes_of c.replace.ensures.value))
    refl refl c.new-2.ensures (ap bytes_of c.new-3.ensures.empty) refl
