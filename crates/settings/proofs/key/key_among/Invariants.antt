use Rattle.std.proofs.Common.{◌≡◌, drop}
use Rattle.settings.specs.Keys as spec
use Rattle.settings.proofs.key.key_among.Given as goal

abbrev pub invariant-loop-key : goal.invariant-loop-key
invariant-loop-key l = spec.key_among (drop l.key-index l.keys) l.name ≡ spec.key_among l.keys l.name
