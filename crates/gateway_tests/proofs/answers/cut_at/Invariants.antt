use Rattle.std.proofs.Common.{length}
use Rattle.buffer_pool.specs.Kept.{HeldWithin}
use Rattle.gateway_tests.proofs.answers.cut_at.Given as goal

abbrev pub invariant-loop-piece : goal.invariant-loop-piece
invariant-loop-piece g l =
    (goal.iterator-loop-piece g).can_next l.piece-iterator ×
    (goal.iterator-loop-piece g).is_finite l.piece-iterator ×
    HeldWithin l.store (length l.body.numbers)
