use Rattle.std.proofs.Common.{◌++◌, ◌-◌, ◌≡◌, drop}
use Rattle.std.specs.Prelude.{flat_map}
use Rattle.conf_parse.specs.declared.tree.Branch.{Branch}
use Rattle.conf_parse.specs.Print as spec
use Rattle.conf_parse.proofs.statements.+statement.Given as goal

abbrev pub invariant-open_chain-loop-other : goal.invariant-open_chain-loop-other
invariant-open_chain-loop-other l = l.out ++ flat_map (λ (y : Branch). spec.further_of l.room (spec.body_text (l.room - 1)) y) (drop l.other-index l.others)
    ≡ l.initial.out ++ flat_map (λ (y : Branch). spec.further_of l.room (spec.body_text (l.room - 1)) y) l.others

abbrev pub invariant-body-loop-one : goal.invariant-body-loop-one
invariant-body-loop-one l = l.out ++ spec.body_text l.room (drop l.one-index l.statements) ≡ l.initial.out ++ spec.body_text l.room l.statements
