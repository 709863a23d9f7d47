-- A range that is satisfied lies in the file.
use Rattle.std.proofs.Common.{◌≡◌, ℕ, ◌+◌, ◌-◌, min, Bool, true, false, List, [], ◌∷◌, take, drop, Option, Some, None, if◌then◌else◌, ◌==◌, refl, codes, arith}
use Rattle.std.specs.Prelude.{nat_le, nat_lt, bytes_eq, position}
use Rattle.std.proofs.lemmas.Bool.{leb-false, ltb-false, eqb-false}
use Rattle.static_files.specs.declared.byte_ranges.Range.TheVariants as range
use Rattle.static_files.specs.Ranges.{LiesIn, from_on, between, suffix, suffix_of, from_on_of, between_of, position_of, range_by, range_at, is_dash, ranges}

from_on_lies : (first size : ℕ) → LiesIn (from_on first size) size
from_on_lies first size = by (nat_le size first) refl
  where
    by : (b : Bool) → nat_le size first ≡ b → LiesIn (if b then range.Unsatisfiable else range.Part first (size - first)) size
    by true e = tt
    by false e = let lt = leb-false size first e in (omega (arith, lt), omega (arith, lt))

between_lies : (first last size : ℕ) → LiesIn (between first last size) size
between_lies first last size = by (nat_lt last first) (nat_le size first) refl refl
  where
    by : (a b : Bool) → nat_lt last first ≡ a → nat_le size first ≡ b
        → LiesIn (if a then range.Whole else (if b then range.Unsatisfiable else range.Part first (min last (size - 1) + 1 - first))) size
    by true b d e = tt
    by false true d e = tt
    by false false d e = let le = ltb-false last first d in let lt = leb-false size first e in (omega (arith, le, lt), omega (arith, le, lt))

suffix_lies : (n size : ℕ) → LiesIn (suffix n size) size
suffix_lies n size = by (n == 0) (size == 0) refl refl
  where
    by : (a b : Bool) → (n == 0) ≡ a → (size == 0) ≡ b
        → LiesIn (if a then range.Unsatisfiable else (if b then range.Whole else range.Part (size - min n size) (min n size))) size
    by true b d e = tt
    by false true d e = tt
    by false false d e = let some = eqb-false n 0 d in let any = eqb-false size 0 e in (omega (arith, some, any), omega (arith, some, any))

suffix_of_lies : (n : Option ℕ) (size : ℕ) → LiesIn (suffix_of n size) size
suffix_of_lies None size = tt
suffix_of_lies (Some n) size = suffix_lies n size

from_on_of_lies : (first : Option ℕ) (size : ℕ) → LiesIn (from_on_of first size) size
from_on_of_lies None size = tt
from_on_of_lies (Some first) size = from_on_lies first size

between_of_lies : (first last : Option ℕ) (size : ℕ) → LiesIn (between_of first last size) size
between_of_lies None last size = tt
between_of_lies (Some first) None size = tt
between_of_lies (Some first) (Some last) size = between_lies first last size

range_by_lies : (first last : List ℕ) (size : ℕ) → LiesIn (range_by first last size) size
range_by_lies [] last size = suffix_of_lies (position_of last) size
range_by_lies (digit ∷ digits) [] size = from_on_of_lies (position_of (digit ∷ digits)) size
range_by_lies (digit ∷ digits) (final ∷ finals) size = between_of_lies (position_of (digit ∷ digits)) (position_of (final ∷ finals)) size

range_at_lies : (at : Option ℕ) (set : List ℕ) (size : ℕ) → LiesIn (range_at at set size) size
range_at_lies None set size = tt
range_at_lies (Some at) set size = range_by_lies (take at set) (drop (at + 1) set) size

pub range_lies : (value : List ℕ) (size : ℕ) → LiesIn (ranges value size) size
range_lies value size = by (bytes_eq (take 6 value) (codes "bytes="))
  where
    by : (b : Bool) → LiesIn (if b then range_at (position is_dash (drop 6 value)) (drop 6 value) size else range.Whole) size
    by true = range_at_lies (position is_dash (drop 6 value)) (drop 6 value) size
    by false = tt

-- the examples of RFC 9110, section 14.1.2, of a representation of 10,000 bytes
pub first_500 : ranges (codes "bytes=0-499") 10000 ≡ range.Part 0 500
first_500 = refl

pub second_500 : ranges (codes "bytes=500-999") 10000 ≡ range.Part 500 500
second_500 = refl

pub final_500 : ranges (codes "bytes=-500") 10000 ≡ range.Part 9500 500
final_500 = refl

pub from_9500 : ranges (codes "bytes=9500-") 10000 ≡ range.Part 9500 500
from_9500 = refl

pub two_ranges : ranges (codes "bytes=0-0,-1") 10000 ≡ range.Whole
two_ranges = refl
