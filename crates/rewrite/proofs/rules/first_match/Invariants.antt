use Rattle.std.proofs.Common.{◌≡◌, ◌+◌, drop}
use Rattle.rewrite.specs.Rules.{first_match}
use Rattle.rewrite.proofs.rules.first_match.Given as goal

abbrev pub invariant-loop-pair : goal.invariant-loop-pair
invariant-loop-pair l = record {
  pattern : l.pattern ≡ l.first_pattern + l.pair-index;
  none : first_match l.pairs l.raw ≡ first_match (drop l.pair-index l.pairs) l.raw;
  same : l.matchers ≡ l.fn.matchers;
}
