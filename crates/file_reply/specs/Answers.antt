-- What a request for a file is answered, by its media type, its size and the time when it was changed last (RFC 9110,
-- sections 8.3, 8.8.2, 13.1.3, 13.2.2, 14 and 15).
use Rattle.std.specs.Prelude.{◌≤◌, ◌==◌, ℕ, ◌+◌, ◌-◌, Bool, false, List, [], ◌∷◌, ◌++◌, Option, Some, None, if◌then◌else◌, bytes_eq, codes, decimal}
use Rattle.std.specs.List.{list_any}
use Rattle.http_header.specs.FieldValue.{FieldValue}
use Rattle.http_header.specs.HeaderMap.{Entries, get, get_all}
use Rattle.http_reply.specs.FieldLines.{FieldLines}
use Rattle.static_files.specs.Dates.{fresh, last_modified}
use Rattle.static_files.specs.Ranges.{ranges}
use Rattle.static_files.specs.declared.byte_ranges.Range.{Range}
use Rattle.static_files.specs.declared.byte_ranges.Range.TheVariants as range
use Rattle.file_reply.specs.declared.answers.Answer.{Answer}
use Rattle.file_reply.specs.declared.answers.Content.{Content}
use Rattle.file_reply.specs.declared.answers.Content.TheVariants as content

-- ---- what a request asks for beside its path

-- the first If-Modified-Since is a date that isn't before the file's time (section 13.1.3)
abbrev pub is_fresh : Option FieldValue → ℕ → Bool
is_fresh None time = false
is_fresh (Some value) time = fresh value.bytes time

-- the only Range, of a file of this size (section 14.2); several ask for nothing
abbrev pub only_range : List FieldValue → ℕ → Range
only_range [] size = range.Whole
only_range (value ∷ []) size = ranges value.bytes size
only_range (value ∷ other ∷ others) size = range.Whole

-- a Range counts for GET alone (section 14.2)
abbrev pub range_for : List ℕ → Entries FieldValue → ℕ → Range
range_for method fields size = if bytes_eq method (codes "GET") then only_range (get_all fields (codes "range")) size else range.Whole

-- ---- fields

abbrev pub date_field : Option (List ℕ) → FieldLines
date_field None = []
date_field (Some date) = (codes "Last-Modified", date) ∷ []

-- left out from the year 10000 on, for which there is no date (section 5.6.7)
abbrev pub modified_field : ℕ → FieldLines
modified_field time = date_field (last_modified time)

-- before the bytes of a file, or a part of them (sections 8.3, 14.3 and 8.8.2)
abbrev pub file_fields : List ℕ → ℕ → FieldLines
file_fields media_type time = (codes "Content-Type", media_type) ∷ (codes "Accept-Ranges", codes "bytes") ∷ modified_field time

-- where a part of one byte or more lies in a file of this size: its first and its last byte (section 14.4)
abbrev pub part_text : ℕ → ℕ → ℕ → List ℕ
part_text start len size = codes "bytes " ++ decimal start ++ codes "-" ++ decimal (start + len - 1) ++ codes "/" ++ decimal size

-- that no byte of such a file was asked for (section 14.4)
abbrev pub unsatisfied_text : ℕ → List ℕ
unsatisfied_text size = codes "bytes */" ++ decimal size

-- ---- answers

-- 304, with no byte of the file (section 15.4.5)
abbrev pub not_modified : ℕ → Answer
not_modified time = record { status = 304; fields = modified_field time; content = content.Part 0 0 }

-- 416 (section 15.5.17)
abbrev pub unsatisfied : ℕ → Answer
unsatisfied size = record { status = 416; fields = (codes "Content-Range", unsatisfied_text size) ∷ []; content = content.Phrase }

-- 200, 206 and 416 (sections 15.3.1 and 15.3.7), by what is asked for
abbrev pub ranged : List ℕ → ℕ → ℕ → Range → Answer
ranged media_type size time range.Whole = record { status = 200; fields = file_fields media_type time; content = content.Part 0 size }
ranged media_type size time (range.Part start len) =
    record { status = 206; fields = file_fields media_type time ++ (codes "Content-Range", part_text start len size) ∷ []; content = content.Part start len }
ranged media_type size time range.Unsatisfiable = unsatisfied size

-- a copy that is fresh goes before a range (section 13.2.2)
abbrev pub answer : List ℕ → List ℕ → Entries FieldValue → ℕ → ℕ → Answer
answer media_type method fields size time =
    if is_fresh (get fields (codes "if-modified-since")) time then not_modified time
    else ranged media_type size time (range_for method fields size)

-- ---- what the laws speak of

-- what is sent lies in a file of this size
abbrev pub IsWithin : Content → ℕ → Type 0
IsWithin content.Phrase size = Unit {0}
IsWithin (content.Part start len) size = start + len ≤ size

-- a status that an opened file answers
abbrev pub is_status : ℕ → Bool
is_status status = list_any (λ other. status == other) (200 ∷ 206 ∷ 304 ∷ 416 ∷ [])
