-- One look at the lists, as the loop takes it.
use Rattle.std.specs.Prelude.{ℕ, Bool, true, false, Option, Some, None}
use Rattle.http_target.specs.declared.read.Target.{Target}
use Rattle.rewrite.specs.declared.next.Next.{Next}
use Rattle.rewrite.specs.declared.next.Next.TheVariants as next
use Rattle.rewrite.specs.declared.rewriting.Pass.{Pass}
use Rattle.rewrite.specs.declared.rewriting.Pass.TheVariants as pass
use Rattle.rewrite.specs.declared.rewriting.Rewritten.{Rewritten}
use Rattle.rewrite.specs.declared.rewriting.Rewritten.TheVariants as answer
use Rattle.rewrite.specs.Rewriting.{new_target}

-- whether a new target is taken, and the target then
abbrev pub taken_by : Option Target → Target → Bool × Target
taken_by None target = (false, target)
taken_by (Some new) target = (true, new)

abbrev pub pass_with : Pass → Option Target → Target → Pass × Target
pass_with good None target = (pass.Bad, target)
pass_with good (Some new) target = (good, new)

abbrev pub pass_by : Next → Target → Pass × Target
pass_by next.Kept target = (pass.Kept, target)
pass_by (next.Once text) target = pass_with pass.Once (new_target text) target
pass_by (next.Repeat text) target = pass_with pass.Repeat (new_target text) target

-- the answer where no new target may be taken any more
abbrev pub limit_answer : Next → Rewritten
limit_answer next.Kept = answer.New
limit_answer (next.Once text) = answer.Loop
limit_answer (next.Repeat text) = answer.Loop

-- how many conditions may be compared once more after it: as many as there are, where a target was taken
abbrev pub again : Pass → ℕ → ℕ
again pass.Kept most = 0
again pass.Bad most = 0
again pass.Once most = most
again pass.Repeat most = most
