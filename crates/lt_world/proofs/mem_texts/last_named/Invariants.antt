use Rattle.std.proofs.Common.{◌≡◌, ◌≤◌, take, length}
use Rattle.lt_world.specs.TextRuns.{library_by}
use Rattle.lt_world.proofs.mem_texts.last_named.Given as goal

abbrev pub invariant-loop-i : goal.invariant-loop-i
invariant-loop-i l = (l.i ≤ length l.texts) × (library_by l.texts l.name ≡ library_by (take l.i l.texts) l.name)

abbrev pub decreases-loop-i : goal.decreases-loop-i
decreases-loop-i l = l.i
