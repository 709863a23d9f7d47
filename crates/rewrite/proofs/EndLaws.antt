-- How a rewriting may end.
use Rattle.std.proofs.Common.{◌≡◌, ℕ, zero, suc, ◌+◌, ◌≤◌, Option, Some, None, refl, arith}
use Rattle.http_target.specs.declared.read.Target.{Target}
use Rattle.rewrite.specs.declared.next.Next.{Next}
use Rattle.rewrite.specs.declared.next.Next.TheVariants as next
use Rattle.rewrite.specs.declared.rewriting.Rewritten.TheVariants as answer
use Rattle.rewrite.specs.Rules.{Lists}
use Rattle.rewrite.specs.Rewriting.{next_of, new_target, Ended, kept, taken, after, at_limit, from, rewritten}

-- after so many new targets, with so many left
record IsEnd (left passes : ℕ) (e : Ended) : Type 0 where
  within : e.passes ≤ passes + left
  beyond : passes ≤ e.passes
  looped : e.answer ≡ answer.Loop → e.passes ≡ passes + left
  same : e.answer ≡ answer.Same → e.passes ≡ 0

kept_is : (left passes : ℕ) (target : Target) → IsEnd left passes (kept passes target)
kept_is left zero target = record { within = omega arith; beyond = omega arith; looped = λ e. absurd (cc e); same = λ e. refl }
kept_is left (suc passes) target = record { within = omega arith; beyond = omega arith; looped = λ e. absurd (cc e); same = λ e. absurd (cc e) }

-- one pass more, and one less that is left
later : (left passes : ℕ) (e : Ended) → IsEnd left (passes + 1) e → IsEnd (suc left) passes e
later left passes e is = record { within = omega (arith, is.within); beyond = omega (arith, is.beyond); looped = λ l. omega (arith, is.looped l); same = is.same }

taken_is : (left passes : ℕ) (target : Target) (new : Option Target) (more : Target → Ended) → ((t : Target) → IsEnd left (passes + 1) (more t)) → IsEnd (suc left) passes (taken passes target new more)
taken_is left passes target None more each = record { within = omega arith; beyond = omega arith; looped = λ e. absurd (cc e); same = λ e. absurd (cc e) }
taken_is left passes target (Some new) more each = later left passes (more new) (each new)

limit_is : (passes : ℕ) (target : Target) (n : Next) → IsEnd 0 passes (at_limit passes target n)
limit_is passes target next.Kept = kept_is 0 passes target
limit_is passes target (next.Once text) = record { within = omega arith; beyond = omega arith; looped = λ e. omega arith; same = λ e. absurd (cc e) }
limit_is passes target (next.Repeat text) = record { within = omega arith; beyond = omega arith; looped = λ e. omega arith; same = λ e. absurd (cc e) }

after_is : (left passes : ℕ) (target : Target) (n : Next) (more : Target → Ended) → ((t : Target) → IsEnd left (passes + 1) (more t)) → IsEnd (suc left) passes (after passes target n more)
after_is left passes target next.Kept more each = kept_is (suc left) passes target
after_is left passes target (next.Once text) more each = taken_is left passes target (new_target text) (kept (passes + 1)) (kept_is left (passes + 1))
after_is left passes target (next.Repeat text) more each = taken_is left passes target (new_target text) more each

from_is : (lists : Target → Lists) (left passes : ℕ) (target : Target) → IsEnd left passes (from lists left passes target)
unfolding from
from_is lists zero passes target = limit_is passes target (next_of (lists target) target.raw)
from_is lists (suc left) passes target = after_is left passes target (next_of (lists target) target.raw) (λ new. from lists left (passes + 1) new) (from_is lists left (passes + 1))

-- new targets that were taken stay taken
pub passes_from : (lists : Target → Lists) (left passes : ℕ) (target : Target) → passes ≤ (from lists left passes target).passes
passes_from lists left passes target = (from_is lists left passes target).beyond

pub passes_within : (lists : Target → Lists) (target : Target) → (rewritten lists target).passes ≤ 100
unfolding rewritten
passes_within lists target = (from_is lists 100 0 target).within

pub looped_at : (lists : Target → Lists) (target : Target) → (rewritten lists target).answer ≡ answer.Loop → (rewritten lists target).passes ≡ 100
unfolding rewritten
looped_at lists target = (from_is lists 100 0 target).looped

pub same_at : (lists : Target → Lists) (target : Target) → (rewritten lists target).answer ≡ answer.Same → (rewritten lists target).passes ≡ 0
unfolding rewritten
same_at lists target = (from_is lists 100 0 target).same
