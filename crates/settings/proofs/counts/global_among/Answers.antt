use Rattle.std.proofs.Common.{◌∙◌}
use Rattle.settings.specs.Indexed.{global_alone, winner}
use Rattle.settings.proofs.Due.{next_due}
use Rattle.settings.proofs.counts.global_among.Goals as goal

pub loop-key-preserved : goal.loop-key-preserved
loop-key-preserved c = next_due (winner c.args.blocks.now global_alone) c.args.keys.now c.loop-key.key-index _ c.loop-key.counting c.set.new.self c.loop-key-test.true
    (c.set.ensures.key ∙ c.global_place.ensures) c.set.ensures.others c.loop-key.invariant
