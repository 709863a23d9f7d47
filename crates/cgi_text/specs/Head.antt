-- The head of a gateway's answer, as a function of its bytes (RFC 3875, section 6; its field lines as in RFC 9112,
-- section 5).
use Rattle.std.specs.Prelude.{◌≡◌, ◌≤◌, ◌⊎◌, ℕ, suc, length, ◌&&◌, nat_le, nat_lt, List, [], ◌∷◌, map, take, codes, Option, Some, None, Result, Ok, Err, if◌then◌else◌}
use Rattle.lt_bytes.specs.Numbers.{number_of}
use Rattle.lt_bytes.specs.declared.numbers.Number.{Number}
use Rattle.lt_bytes.specs.declared.numbers.Number.TheVariants.{Value, NotANumber, Overflow}
use Rattle.httparse.specs.Grammar.{Field, LineEnd, ReadsSection}
use Rattle.httparse.specs.Spans.{name_and_value}
use Rattle.http_header.specs.FieldValue.{FieldValue}
use Rattle.http_header.specs.HeaderMap.{Entries, get_all}
use Rattle.http_head.specs.Lines.{empty_line}
use Rattle.http_head.specs.Ends.{head_end}
use Rattle.http_head.specs.Fields.{map_of}
use Rattle.http_head.specs.Read.{Section, read_section}
use Rattle.http_head.specs.declared.ends.HeadEnd.{HeadEnd}
use Rattle.http_head.specs.declared.ends.HeadEnd.TheVariants.{At, NotYet, TooLarge}
use Rattle.http_head.specs.declared.limits.TheConstants.{FIELD_LINE_LIMIT}
use Rattle.cgi_text.specs.Passed.{passed_on, stated_of}
use Rattle.cgi_text.specs.declared.head.CgiHead.{CgiHead}
use Rattle.cgi_text.specs.declared.head.CgiRefusal.{CgiRefusal}
use Rattle.cgi_text.specs.declared.head.CgiRefusal.TheVariants.{NeedMore, BadCgiHead, CgiHeadTooLong, NoMemory}

-- where the head ends: behind its first empty line, before which no line need stand, within the limit of every head
abbrev pub section_end : List ℕ → HeadEnd
section_end bytes = if nat_lt 0 (empty_line bytes) then At (empty_line bytes) else head_end bytes

abbrev pub in_range : Number → Option ℕ
in_range (Value n) = if nat_le 200 n && nat_le n 599 then Some n else None
in_range NotANumber = None
in_range Overflow = None

-- the three digits at the front of a Status field, from 200 to 599; fewer digits write a lesser number
abbrev pub status_code : List ℕ → Option ℕ
status_code value = in_range (number_of 10 (take 3 value))

-- by the values of Status, of which the first counts, and of Location
abbrev pub status_by : List FieldValue → List FieldValue → Option ℕ
status_by (v ∷ more) locations = status_code v.bytes
status_by [] [] = Some 200
status_by [] (v ∷ more) = Some 302

-- the status of the reply: that of the field, or Found with a Location, or OK (RFC 3875, section 6.3.3)
abbrev pub status_of : Entries FieldValue → Option ℕ
status_of fields = status_by (get_all fields (codes "status")) (get_all fields (codes "location"))

-- a head of so many bytes with these fields is bad only by its status
abbrev pub head_with : ℕ → Entries FieldValue → Option ℕ → Result CgiHead CgiRefusal
head_with size fields None = Err BadCgiHead
head_with size fields (Some status) =
    Ok (record { status = status; fields = passed_on fields; length = size; stated = stated_of fields })

abbrev pub head_by : ℕ → Entries FieldValue → Result CgiHead CgiRefusal
head_by size fields = head_with size fields (status_of fields)

-- the fields of the lines that were read
abbrev pub fields_of : List Field → Entries FieldValue
fields_of fields = map_of (map name_and_value fields)

-- a head whose lines are not read is bad
abbrev pub head_read : ℕ → Option Section → Result CgiHead CgiRefusal
head_read size None = Err BadCgiHead
head_read size (Some s) = head_by size (fields_of s.0.0)

-- the lines up to the end, of which at most 64 are field lines
abbrev pub head_at : List ℕ → HeadEnd → Result CgiHead CgiRefusal
head_at bytes NotYet = Err NeedMore
head_at bytes TooLarge = Err CgiHeadTooLong
head_at bytes (At n) = head_read n (read_section (suc FIELD_LINE_LIMIT) (take n bytes))

-- the head at the front, or why there is none
abbrev pub cgi_head : List ℕ → Result CgiHead CgiRefusal
cgi_head bytes = head_at bytes (section_end bytes)

-- the result is what is due, but for the want of memory
abbrev pub Says : Result CgiHead CgiRefusal → Result CgiHead CgiRefusal → Type 0
Says due (Ok head) = due ≡ Ok head
Says due (Err refusal) = (refusal ≡ NoMemory) ⊎ (due ≡ Err refusal)

-- the bytes are a section of the grammar and what follows it, and the head is what its fields say
pub record IsHeadOf (bytes : List ℕ) (head : CgiHead) : Type 0 where
  pub fields : List Field
  pub last : LineEnd
  pub rest : List ℕ
  pub reads : ReadsSection bytes fields last rest
  pub few : length fields ≤ FIELD_LINE_LIMIT
  pub says : head_by head.length (fields_of fields) ≡ Ok head
