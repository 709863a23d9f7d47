use Rattle.std.proofs.Common.{◌++◌, ◌≡◌, drop, codes}
use Rattle.std.specs.Prelude.{flat_map}
use Rattle.conf_parse.specs.declared.tree.Term.{Term}
use Rattle.conf_parse.specs.declared.tree.Item.{Item}
use Rattle.conf_parse.specs.Print as spec
use Rattle.conf_parse.proofs.printer.+value.Given as goal

abbrev pub invariant-all_items-loop-one : goal.invariant-all_items-loop-one
invariant-all_items-loop-one l = l.out ++ flat_map (λ (y : Item). codes ", " ++ spec.item_text l.room y) (drop l.one-index l.others)
    ≡ l.initial.out ++ flat_map (λ (y : Item). codes ", " ++ spec.item_text l.room y) l.others

abbrev pub invariant-sum-loop-one : goal.invariant-sum-loop-one
invariant-sum-loop-one l = l.out ++ flat_map (λ (y : Term). codes " + " ++ spec.term_text l.room y) (drop l.one-index l.others)
    ≡ l.initial.out ++ flat_map (λ (y : Term). codes " + " ++ spec.term_text l.room y) l.others
