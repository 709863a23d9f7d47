use Rattle.std.proofs.Common.{◌≡◌, ◌≤◌, length}
use Rattle.http_head.specs.Lines.{after_blank}
use Rattle.http_head.proofs.lines.after_blank.Given as goal

abbrev pub invariant-loop-rest : goal.invariant-loop-rest
invariant-loop-rest l = record { same : after_blank l.rest ≡ after_blank l.bytes; within : length l.rest ≤ length l.bytes }

abbrev pub decreases-loop-rest : goal.decreases-loop-rest
decreases-loop-rest l = length l.rest
