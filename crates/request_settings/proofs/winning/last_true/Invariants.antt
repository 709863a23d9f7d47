use Rattle.std.proofs.Common.{◌≡◌, ◌+◌, ◌≤◌, length, take}
use Rattle.conditions.specs.Attributes.{attributes_of}
use Rattle.settings.specs.Indexed.{last_true}
use Rattle.cond_cache.specs.Truths.{truth_of}
use Rattle.cond_cache.specs.Kept.{AreRight, Stay, asked}
use Rattle.request_settings.proofs.winning.last_true.Given as goal

abbrev pub invariant-loop-left : goal.invariant-loop-left
invariant-loop-left g l = record {
  few : l.left ≤ length l.places;
  right : AreRight l.config.blocks (attributes_of l.attrs) l.conds;
  stay : Stay l.initial.conds l.conds;
  steps : l.steps + length (asked l.initial.conds) ≡ l.initial.steps + length (asked l.conds);
  matchers : l.matchers ≡ l.initial.matchers;
  last : last_true (truth_of l.config.blocks (attributes_of l.attrs)) (take l.left l.places) ≡ last_true (truth_of l.config.blocks (attributes_of l.attrs)) l.places;
}

abbrev pub decreases-loop-left : goal.decreases-loop-left
decreases-loop-left g l = l.left
