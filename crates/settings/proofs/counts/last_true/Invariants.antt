use Rattle.std.proofs.Common.{◌≡◌, ◌≤◌, length, take}
use Rattle.settings.specs.Indexed as spec
use Rattle.settings.proofs.counts.last_true.Given as goal

abbrev pub invariant-loop-left : goal.invariant-loop-left
invariant-loop-left l =
    (l.left ≤ length l.places) × (spec.last_true (spec.truth_in l.truths) (take l.left l.places) ≡ spec.last_true (spec.truth_in l.truths) l.places)

abbrev pub decreases-loop-left : goal.decreases-loop-left
decreases-loop-left l = l.left
