use Rattle.lt_commands.specs.Runs.{asked_of}
use Rattle.lt_commands.proofs.answering.answer.Goals as goal

pub returns-clause-ran : goal.returns-clause-ran
returns-clause-ran g c = record {
  left = asked_of c.offline.new.files;
  trace = c.offline.new.net.game.trace;
  some = c.offline.ensures.serves;
  spelled = c.offline.ensures.spelled;
  reported = c.offline.ensures.report;
  benched = c.offline.ensures.benched;
  summed = c.offline.ensures.summed;
}
