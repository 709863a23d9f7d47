use Rattle.lt_world.proofs.TextLaws.{leads_fetch}
use Rattle.lt_world.proofs.mem_texts.MemTextsTexts.fetch.Goals as goal

pub returns-clause-later : goal.returns-clause-later
returns-clause-later c = record { leads = leads_fetch c.args.self.now c.fetch_next.new.self c.fetch_next.result c.args.name.now c.fetch_next.ensures.becomes c.fetch_next.ensures.planned; faults = c.fetch_next.ensures.faults }
