use Rattle.std.proofs.Common.{◌≡◌}
use Rattle.conditions.specs.Attributes.{attributes_of}
use Rattle.cond_cache.specs.Kept.{AreRight}
use Rattle.chain_run.proofs.comparing.truths_of.Given as goal

-- what was found so far is right, and the matchers are those of the patterns
abbrev pub invariant-loop-block : goal.invariant-loop-block
invariant-loop-block g l = record {
  right : AreRight l.config.blocks (attributes_of l.attrs) l.conds;
  matchers : l.matchers ≡ l.initial.matchers;
}
