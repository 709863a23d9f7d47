-- How the target of a request is rewritten (lighttpd documentation, mod_rewrite).
use Rattle.std.specs.Prelude.{ℕ, zero, suc, ◌+◌, nat_le, List, [], ◌∷◌, length, Option, Some, None, if◌then◌else◌}
use Rattle.http_target.specs.declared.read.Target.{Target}
use Rattle.http_target.specs.Target.{target_of}
use Rattle.rewrite.specs.declared.next.Next.{Next}
use Rattle.rewrite.specs.declared.next.Next.TheVariants as next
use Rattle.rewrite.specs.declared.rewriting.Rewritten.{Rewritten}
use Rattle.rewrite.specs.declared.rewriting.Rewritten.TheVariants as answer
use Rattle.conditions.specs.Template.{filled}
use Rattle.rewrite.specs.Rules.{Lists, Match, first_match}

-- a rule with an empty replacement ends the rewriting and leaves the target
abbrev pub unless_blank : List ℕ → List ℕ → Option (List ℕ)
unless_blank [] text = None
unless_blank (b ∷ replacement) text = Some text

-- the text that a match makes: `$0` to `$9` are the groups of the rule, `%0` to `%9` those of the condition
abbrev pub text_of : Match → List (List ℕ) → Option (List ℕ)
text_of found outer = unless_blank found.replacement (filled found.groups outer found.replacement)

abbrev pub once_by : Option (List ℕ) → Next
once_by None = next.Kept
once_by (Some text) = next.Once text

abbrev pub repeat_by : Option (List ℕ) → Next
repeat_by None = next.Kept
repeat_by (Some text) = next.Repeat text

abbrev pub next_repeat : Option Match → List (List ℕ) → Next
next_repeat None outer = next.Kept
next_repeat (Some found) outer = repeat_by (text_of found outer)

abbrev pub next_by : Option Match → Lists → List ℕ → Next
next_by (Some found) lists raw = once_by (text_of found lists.once.outer)
next_by None lists raw = next_repeat (first_match lists.repeat.rules raw) lists.repeat.outer

-- what the lists make of a target: the first match counts, first of the once list, then of the repeat list
abbrev pub next_of : Lists → List ℕ → Next
next_of lists raw = next_by (first_match lists.once.rules raw) lists raw

-- a new target, without the authority that it may have; none where it is too long or bad
abbrev pub new_target : List ℕ → Option Target
new_target text = if nat_le (length text) 8192 then target_of text else None

-- how a rewriting ends: what is answered, the target then, and how many new targets were taken
pub record Ended : Type 0 where
  pub answer : Rewritten
  pub target : Target
  pub passes : ℕ

abbrev pub answer_after : ℕ → Rewritten
answer_after zero = answer.Same
answer_after (suc passes) = answer.New

-- no rule makes a new target
abbrev pub kept : ℕ → Target → Ended
kept passes target = record { answer = answer_after passes; target = target; passes = passes }

-- a new target that can't be taken; `more` says how one goes on that can
abbrev pub taken : ℕ → Target → Option Target → (Target → Ended) → Ended
taken passes target None more = record { answer = answer.Bad; target = target; passes = passes }
taken passes target (Some new) more = more new

-- after a once match the rewriting ends, after a repeat match all begins again
abbrev pub after : ℕ → Target → Next → (Target → Ended) → Ended
after passes target next.Kept more = kept passes target
after passes target (next.Once text) more = taken passes target (new_target text) (kept (passes + 1))
after passes target (next.Repeat text) more = taken passes target (new_target text) more

-- where no new target may be taken any more, one that would be made is not read
abbrev pub at_limit : ℕ → Target → Next → Ended
at_limit passes target next.Kept = kept passes target
at_limit passes target (next.Once text) = record { answer = answer.Loop; target = target; passes = passes }
at_limit passes target (next.Repeat text) = record { answer = answer.Loop; target = target; passes = passes }

-- from a target on, with so many new targets left and so many taken; `lists` are those that win on each target
unfoldable pub from : (Target → Lists) → ℕ → ℕ → Target → Ended
from lists zero passes target = at_limit passes target (next_of (lists target) target.raw)
from lists (suc left) passes target = after passes target (next_of (lists target) target.raw) (λ new. from lists left (passes + 1) new)

-- a request may be rewritten a hundred times
unfoldable pub rewritten : (Target → Lists) → Target → Ended
rewritten lists target = from lists 100 0 target
