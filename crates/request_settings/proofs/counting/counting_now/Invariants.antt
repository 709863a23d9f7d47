use Rattle.std.proofs.Common.{◌≡◌, ◌+◌, length, take}
use Rattle.conditions.specs.Attributes.{attributes_of}
use Rattle.cond_cache.specs.Kept.{AreRight, Stay, asked}
use Rattle.cond_cache.specs.Truths.{truth_of}
use Rattle.settings.specs.Indexed.{AreDue, winner}
use Rattle.request_settings.proofs.counting.counting_now.Given as goal

abbrev pub invariant-loop-key : goal.invariant-loop-key
invariant-loop-key g l = record {
  due : AreDue (winner l.config.blocks (truth_of l.config.blocks (attributes_of l.attrs))) (take l.key-index l.keys) l.counting;
  right : AreRight l.config.blocks (attributes_of l.attrs) l.conds;
  stay : Stay l.initial.conds l.conds;
  steps : l.steps + length (asked l.initial.conds) ≡ l.initial.steps + length (asked l.conds);
  matchers : l.matchers ≡ l.initial.matchers;
}
