use Rattle.std.proofs.Common.{◌≡◌, drop}
use Rattle.conf_eval.specs.Values as spec
use Rattle.conf_eval.specs.Kept.{look}
use Rattle.conf_eval.proofs.value.+value.Given as goal

-- What is left, joined to the value so far, comes to what the whole comes to.
abbrev pub invariant-sum-loop-other : goal.invariant-sum-loop-other
invariant-sum-loop-other l = spec.added (look l.scope) (spec.array_value (look l.scope) l.room) l.value (drop l.other-index l.others)
    ≡ spec.added (look l.scope) (spec.array_value (look l.scope) l.room) l.initial.value l.others

abbrev pub invariant-all_items-loop-one : goal.invariant-all_items-loop-one
invariant-all_items-loop-one l = spec.items_of (look l.scope) (spec.array_value (look l.scope) l.room) l.pairs (drop l.one-index l.items)
    ≡ spec.items_of (look l.scope) (spec.array_value (look l.scope) l.room) l.initial.pairs l.items
