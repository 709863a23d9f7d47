use Rattle.std.proofs.Common.{List, sym, subst, ◌∙◌}
use Rattle.conditions.specs.Marked.{Marked}
use Rattle.cond_cache.specs.Kept.{HavePatterns}
use Rattle.chain_run.proofs.comparing.compare_by.Goals as goal

-- the matchers are those of the patterns, round after round
pub compare_one-requires-clause-patterns : goal.compare_one-requires-clause-patterns
compare_one-requires-clause-patterns g c =
    subst (λ (patterns : List Marked). HavePatterns c.in-Ok.loaded.config.blocks patterns)
    (sym (c.loop-one.invariant ∙ c.in_ok-matchers.ensures.matchers)) c.in-Ok.ensures.patterns.conditions
