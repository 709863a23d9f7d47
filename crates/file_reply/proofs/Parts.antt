-- What is sent lies in the file, and which status comes with it.
use Rattle.std.proofs.Common.{◌≡◌, ℕ, List, [], ◌∷◌, Bool, true, false, if◌then◌else◌, bytes_eq, codes, refl, arith}
use Rattle.std.specs.Prelude.{IsTrue}
use Rattle.std.proofs.lemmas.Slice.Eq.{bytes_eq-Decides}
use Rattle.http_header.specs.FieldValue.{FieldValue}
use Rattle.http_header.specs.HeaderMap.{Entries, get, get_all}
use Rattle.static_files.specs.Ranges.{LiesIn}
use Rattle.static_files.specs.declared.byte_ranges.Range.{Range}
use Rattle.static_files.specs.declared.byte_ranges.Range.TheVariants as range
use Rattle.static_files.proofs.RangeLaws.{range_lies}
use Rattle.file_reply.specs.Answers.{is_fresh, only_range, range_for, not_modified, ranged, answer, IsWithin, is_status}

only_lies : (values : List FieldValue) (size : ℕ) → LiesIn (only_range values size) size
only_lies [] size = tt
only_lies (value ∷ []) size = range_lies value.bytes size
only_lies (value ∷ other ∷ others) size = tt

pub asked_lies : (method : List ℕ) (fields : Entries FieldValue) (size : ℕ) → LiesIn (range_for method fields size) size
asked_lies method fields size = by (bytes_eq method (codes "GET"))
  where
    by : (b : Bool) → LiesIn (if b then only_range (get_all fields (codes "range")) size else range.Whole) size
    by true = only_lies (get_all fields (codes "range")) size
    by false = tt

ranged_within : (media_type : List ℕ) (size time : ℕ) (asked : Range) → LiesIn asked size → IsWithin (ranged media_type size time asked).content size
ranged_within media_type size time range.Whole lies = omega arith
ranged_within media_type size time (range.Part start len) lies = lies.1
ranged_within media_type size time range.Unsatisfiable lies = tt

-- what is sent lies in the file
pub answer_within : (media_type method : List ℕ) (fields : Entries FieldValue) (size time : ℕ) → IsWithin (answer media_type method fields size time).content size
answer_within media_type method fields size time = by (is_fresh (get fields (codes "if-modified-since")) time)
  where
    by : (b : Bool) → IsWithin (if b then not_modified time else ranged media_type size time (range_for method fields size)).content size
    by true = omega arith
    by false = ranged_within media_type size time (range_for method fields size) (asked_lies method fields size)

ranged_status : (media_type : List ℕ) (size time : ℕ) (asked : Range) → IsTrue (is_status (ranged media_type size time asked).status)
ranged_status media_type size time range.Whole = refl
ranged_status media_type size time (range.Part start len) = refl
ranged_status media_type size time range.Unsatisfiable = refl

-- no other status comes
pub answer_status : (media_type method : List ℕ) (fields : Entries FieldValue) (size time : ℕ) → IsTrue (is_status (answer media_type method fields size time).status)
answer_status media_type method fields size time = by (is_fresh (get fields (codes "if-modified-since")) time)
  where
    by : (b : Bool) → IsTrue (is_status (if b then not_modified time else ranged media_type size time (range_for method fields size)).status)
    by true = refl
    by false = ranged_status media_type size time (range_for method fields size)

-- a part is for GET alone
pub part_for_get : (media_type method : List ℕ) (fields : Entries FieldValue) (size time : ℕ) → (answer media_type method fields size time).status ≡ 206 → method ≡ codes "GET"
part_for_get media_type method fields size time = by (is_fresh (get fields (codes "if-modified-since")) time) (bytes_eq method (codes "GET")) refl
  where
    by : (fresh get : Bool) → bytes_eq method (codes "GET") ≡ get → (if fresh then not_modified time else ranged media_type size time (if get then only_range (get_all fields (codes "range")) size else range.Whole)).status ≡ 206 → method ≡ codes "GET"
    by true get is h = absurd (omega (arith, h))
    by false true is h = (bytes_eq-Decides method (codes "GET")).0 is
    by false false is h = absurd (omega (arith, h))
