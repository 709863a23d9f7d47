use Rattle.conf_value.specs.Places.{place_in}
use Rattle.conf_value.proofs.Placing.{noted_next}
use Rattle.conf_value.proofs.places.Places.of.Goals as goal

pub loop-at-preserved : goal.loop-at-preserved
loop-at-preserved c = noted_next c.args.pairs.now c.loop-at.at c.index-pairs-at.result (place_in c.loop-at.places) (place_in c.note.new.self) c.loop-at-test.true c.index-pairs-at.is c.loop-at.invariant c.in_ok-note.ensures
