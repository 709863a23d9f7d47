use Rattle.std.proofs.Common.{◌≡◌, drop}
use Rattle.settings.specs.Gateways as spec
use Rattle.settings.proofs.host.value_in.Given as goal

abbrev pub invariant-loop-pair : goal.invariant-loop-pair
invariant-loop-pair l = spec.value_in l.key (drop l.pair-index l.pairs) ≡ spec.value_in l.key l.pairs
