use Rattle.std.proofs.Common.{◌≡◌, ◌-◌, drop}
use Rattle.std.specs.List.{list_all}
use Rattle.conf_value.specs.declared.value.Pair.{Pair, out-Pair}
use Rattle.conf_value.specs.declared.value.Value.{out-Value}
use Rattle.conf_eval.specs.Values as spec
use Rattle.conf_eval.proofs.within.+within.Given as goal

abbrev pub invariant-is_array_within-loop-pair : goal.invariant-is_array_within-loop-pair
invariant-is_array_within-loop-pair l = list_all (λ (p : Pair). spec.value_is_within (spec.array_within (l.depth - 1)) (out-Value (out-Pair p).value)) (drop l.pair-index l.pairs)
    ≡ list_all (λ (p : Pair). spec.value_is_within (spec.array_within (l.depth - 1)) (out-Value (out-Pair p).value)) l.pairs
