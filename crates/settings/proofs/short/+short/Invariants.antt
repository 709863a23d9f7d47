use Rattle.std.proofs.Common.{◌≡◌, ◌-◌, drop}
use Rattle.std.specs.List.{list_all}
use Rattle.settings.specs.Checking as spec
use Rattle.settings.proofs.short.+short.Given as goal

abbrev pub invariant-are_short-loop-pair : goal.invariant-are_short-loop-pair
invariant-are_short-loop-pair l = list_all (spec.pair_is_short (spec.are_short (l.depth - 1))) (drop l.pair-index l.pairs)
    ≡ list_all (spec.pair_is_short (spec.are_short (l.depth - 1))) l.pairs
