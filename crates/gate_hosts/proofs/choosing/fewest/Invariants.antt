use Rattle.std.proofs.Common.{◌≡◌, drop}
use Rattle.gate_hosts.specs.Choices.{better, fewest_from}
use Rattle.gate_hosts.proofs.choosing.fewest.Given as goal

abbrev pub invariant-loop-place : goal.invariant-loop-place
invariant-loop-place l = fewest_from 0 l.fn.links l.tried ≡ better l.best (fewest_from l.place (drop l.place l.fn.links) (drop l.place l.tried))
