use Rattle.lt_world.proofs.SinkLaws.{leads_write}
use Rattle.lt_world.proofs.mem_sink.MemSinkSink.write.Goals as goal

pub returns-clause-later : goal.returns-clause-later
returns-clause-later c = record { leads = leads_write c.args.self.now c.write_next.new.self c.write_next.result c.args.piece.now c.write_next.ensures.becomes c.write_next.ensures.planned; faults = c.write_next.ensures.faults }
