use Rattle.std.proofs.Common.{false}
use Rattle.gate_hosts.proofs.Best.{fewest_turn, fewest_end}
use Rattle.gate_hosts.proofs.choosing.fewest.Goals as goal

pub loop-place-preserved : goal.loop-place-preserved
loop-place-preserved c =
    fewest_turn c.args.links.now c.args.tried.now c.loop-place.place c.loop-place.best c.candidate-host.result c.better-best.result false c.loop-place-test.true c.requires.same
    c.candidate-host.ensures c.better-best.ensures c.loop-place.invariant

pub returns : goal.returns
returns c = fewest_end c.args.links.now c.args.tried.now c.loop-place.place c.loop-place.best c.loop-place-test.false c.loop-place.invariant
