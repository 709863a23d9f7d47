-- Where a head ends.
use Rattle.std.specs.Prelude.{ℕ, ◌<◌, ◌≤◌, List, take, length, Option, Some, None, if◌then◌else◌, nat_le, ⊤}
use Rattle.http_head.specs.declared.limits.TheConstants.{HEAD_LIMIT}
use Rattle.http_head.specs.declared.ends.HeadEnd.{HeadEnd}
use Rattle.http_head.specs.declared.ends.HeadEnd.TheVariants.{At, NotYet, TooLarge}
use Rattle.http_head.specs.Lines.{end_of}

abbrev pub head_end_at : ℕ → ℕ → Option ℕ → HeadEnd
head_end_at most len (Some n) = At n
head_end_at most len None = if nat_le most len then TooLarge else NotYet

-- where the head ends within the first bytes; too large where they are all there and it does not end
abbrev pub head_end_in : ℕ → List ℕ → HeadEnd
head_end_in most bytes = head_end_at most (length bytes) (end_of (take most bytes))

abbrev pub head_end : List ℕ → HeadEnd
head_end bytes = head_end_in HEAD_LIMIT bytes

-- a place where a head ends lies behind its first byte and within len bytes
abbrev pub IsWithin : ℕ → HeadEnd → Type 0
IsWithin len (At n) = (0 < n) × (n ≤ len)
IsWithin len NotYet = ⊤
IsWithin len TooLarge = ⊤
