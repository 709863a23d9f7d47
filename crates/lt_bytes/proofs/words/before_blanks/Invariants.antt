use Rattle.std.proofs.Common.{◌≡◌, length}
use Rattle.lt_bytes.specs.Words.{before_blanks}
use Rattle.lt_bytes.proofs.words.before_blanks.Given as goal

abbrev pub invariant-loop-last : goal.invariant-loop-last
invariant-loop-last l = before_blanks l.rest ≡ before_blanks l.fn.bytes

abbrev pub decreases-loop-last : goal.decreases-loop-last
decreases-loop-last l = length l.rest
