-- Byte ranges (RFC 9110, sections 14.1.1, 14.1.2 and 14.2): one range of one or two positions, or a suffix; any other
-- value is ignored.
use Rattle.std.specs.Prelude.{ℕ, ◌+◌, ◌-◌, ◌<◌, ◌≤◌, Bool, ◌==◌, nat_le, nat_lt, min, List, [], ◌∷◌, length, take, drop, Option, Some, None, if◌then◌else◌, bytes_eq, codes}
use Rattle.std.specs.List.{position}
use Rattle.lt_bytes.specs.Numbers.{number_of}
use Rattle.lt_bytes.specs.declared.numbers.Number.{Number}
use Rattle.lt_bytes.specs.declared.numbers.Number.TheVariants as number
use Rattle.static_files.specs.declared.byte_ranges.Range.{Range}
use Rattle.static_files.specs.declared.byte_ranges.Range.TheVariants as range

abbrev pub value_of : Number → Option ℕ
value_of (number.Value n) = Some n
value_of answer = None

-- the number that 1 to 18 digits write (first-pos, last-pos and suffix-length)
abbrev pub position_of : List ℕ → Option ℕ
position_of digits = if nat_le (length digits) 18 then value_of (number_of 10 digits) else None

-- `a-`: from position a to the end
abbrev pub from_on : ℕ → ℕ → Range
from_on first size = if nat_le size first then range.Unsatisfiable else range.Part first (size - first)

-- `a-b`: from position a to position b, or to the last byte where that is nearer; no range where b is below a
abbrev pub between : ℕ → ℕ → ℕ → Range
between first last size =
    if nat_lt last first then range.Whole
    else (if nat_le size first then range.Unsatisfiable else range.Part first (min last (size - 1) + 1 - first))

-- `-n`: the last n bytes, or all where there are fewer; a file without bytes is sent as it is
abbrev pub suffix : ℕ → ℕ → Range
suffix n size =
    if n == 0 then range.Unsatisfiable
    else (if size == 0 then range.Whole else range.Part (size - min n size) (min n size))

abbrev pub suffix_of : Option ℕ → ℕ → Range
suffix_of None size = range.Whole
suffix_of (Some n) size = suffix n size

abbrev pub from_on_of : Option ℕ → ℕ → Range
from_on_of None size = range.Whole
from_on_of (Some first) size = from_on first size

abbrev pub between_of : Option ℕ → Option ℕ → ℕ → Range
between_of (Some first) (Some last) size = between first last size
between_of first last size = range.Whole

-- by what stands before and behind the dash
abbrev pub range_by : List ℕ → List ℕ → ℕ → Range
range_by [] last size = suffix_of (position_of last) size
range_by (digit ∷ digits) [] size = from_on_of (position_of (digit ∷ digits)) size
range_by (digit ∷ digits) (final ∷ finals) size = between_of (position_of (digit ∷ digits)) (position_of (final ∷ finals)) size

abbrev pub is_dash : ℕ → Bool
is_dash b = b == 45

-- by where the first dash stands
abbrev pub range_at : Option ℕ → List ℕ → ℕ → Range
range_at None set size = range.Whole
range_at (Some at) set size = range_by (take at set) (drop (at + 1) set) size

-- what the value of a Range field asks for, of a file of this size
abbrev pub ranges : List ℕ → ℕ → Range
ranges value size = if bytes_eq (take 6 value) (codes "bytes=") then range_at (position is_dash (drop 6 value)) (drop 6 value) size else range.Whole

-- what is sent is one byte or more, and lies in the file
abbrev pub LiesIn : Range → ℕ → Type 0
LiesIn (range.Part start len) size = (0 < len) × (start + len ≤ size)
LiesIn answer size = Unit {0}
