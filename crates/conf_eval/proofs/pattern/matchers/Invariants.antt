use Rattle.std.proofs.Common.{◌≡◌, take}
use Rattle.conf_eval.proofs.pattern.matchers.Given as goal

-- the matchers of the patterns so far
abbrev pub invariant-loop-pattern : goal.invariant-loop-pattern
invariant-loop-pattern l = l.matchers ≡ take l.pattern-index l.patterns
