use Rattle.std.proofs.Common.{◌∙◌, ap}
use Rattle.settings.specs.Indexed.{last_true, truth_in, winner}
use Rattle.settings.proofs.Due.{next_due}
use Rattle.settings.proofs.counts.counting_among.Goals as goal

pub loop-key-preserved : goal.loop-key-preserved
loop-key-preserved c = λ blocks is. next_due (winner blocks (truth_in c.args.truths.now)) c.args.keys.now c.loop-key.key-index _ c.loop-key.counting c.set.new.self c.loop-key-test.true
    (c.set.ensures.key ∙ c.last_true.ensures ∙ ap (last_true (truth_in c.args.truths.now)) (c.places.ensures blocks is)) c.set.ensures.others (c.loop-key.invariant blocks is)
