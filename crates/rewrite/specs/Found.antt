-- What is lent of a rule and of its match, as the definitions have it.
use Rattle.rewrite.specs.declared.rules.Lent.{Lent}
use Rattle.rewrite.specs.declared.rules.Found.{Found}
use Rattle.rewrite.specs.declared.rules.Rules.{Rules}
use Rattle.rewrite.specs.Rules.{Rule, Match, RuleList}

abbrev pub lent_rule : Lent → Rule
lent_rule lent = record { pattern = lent.pattern.now; replacement = lent.replacement.now }

abbrev pub lent_match : Found → Match
lent_match found = record { replacement = found.replacement.now; groups = found.groups }

abbrev pub lent_list : Rules → RuleList
lent_list rules = record { rules = rules.pairs.now; outer = rules.outer.now }
