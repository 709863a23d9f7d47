use Rattle.std.proofs.Common.{subst, take}
use Rattle.chunkqueue.specs.Items.{staged_of}
use Rattle.fcgi_records.specs.Reading.{Passes}
use Rattle.fcgi_records.proofs.FeedingLemmas.{framing_reads}
use Rattle.fcgi_records.proofs.reader.Reader.take_framing.Goals as goal

pub returns-clause-reads : goal.returns-clause-reads
returns-clause-reads c =
    framing_reads c.args.self.now c.through-state.result.0 c.args.input.now c.advance.new.self (staged_of c.args.input.now) c.front_bytes.result.now c.through-state.result.1 c.requires.memory c.requires.some
    c.front_bytes.ensures.leads c.through-state.ensures.within
    (subst (λ s. Passes s (take c.through-state.result.1 c.front_bytes.result.now) c.through-state.result.0) c.self.view_is c.through-state.ensures.passes)
    c.advance.ensures.items
