use Rattle.std.proofs.Common.{rules, refl, ◌∙◌}
use Rattle.server_model.specs.Runs.{none}
use Rattle.lt_serve.proofs.RunLemmas.{did}
use Rattle.lt_serve.proofs.run.run.Goals as goal

pub loop-init : goal.loop-init
loop-init g c = record {
  table = c.requires.table;
  backs = c.requires.backs;
  site = refl;
  serves = λ net files serves. serves;
  run = λ net files serves. none;
  waits = refl;
  since = g.met.N.Waits.later_since _ _ (g.met.N.Net.later_same c.args.net.now);
  files_later = g.met.F.Files.later_same c.args.files.now;
}

pub loop-preserved-in-Did : goal.loop-preserved-in-Did
loop-preserved-in-Did g c = record {
  table = c.in-Did.ensures.table;
  backs = c.in-Did.ensures.backs;
  site = search rules;
  serves = λ net files serves. (c.in-Did.ensures.serves net files (c.loop.invariant.serves net files serves)).0;
  run = λ net files serves. did _ _ _ _ _ _ _ _ c.loop.invariant.site (c.loop.invariant.run net files serves) (c.in-Did.ensures.serves net files (c.loop.invariant.serves net files serves)).1;
  waits = c.turn.ensures.wait_faults ∙ c.loop.invariant.waits;
  since = g.met.N.Waits.since_since c.args.net.now c.loop.net c.turn.new.net c.loop.invariant.since (g.met.N.Waits.later_since c.loop.net c.turn.new.net c.in-Did.ensures.later);
  files_later = g.met.F.Files.later_later c.args.files.now c.loop.files c.turn.new.files c.loop.invariant.files_later c.in-Did.ensures.files_later;
}
