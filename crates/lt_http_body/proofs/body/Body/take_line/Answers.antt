use Rattle.std.proofs.Common.{subst, take}
use Rattle.chunkqueue.specs.Items.{staged_of}
use Rattle.lt_http_body.specs.Reading.{Passes}
use Rattle.lt_http_body.proofs.FeedingLemmas.{line_reads}
use Rattle.lt_http_body.proofs.body.Body.take_line.Goals as goal

pub returns-clause-reads : goal.returns-clause-reads
returns-clause-reads c =
    line_reads c.args.self.now c.through-n.result.0 c.args.input.now c.advance.new.self (staged_of c.args.input.now) c.front_bytes.result.now c.through-n.result.1 c.requires.memory c.requires.some
    c.front_bytes.ensures.leads c.through-n.ensures.within
    (subst (λ s. Passes s (take c.through-n.result.1 c.front_bytes.result.now) c.through-n.result.0) c.self.view_is c.through-n.ensures.passes)
    c.advance.ensures.items
