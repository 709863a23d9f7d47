-- How a reply is read: by the response grammar of `httparse` (RFC 9112, sections 2 to 5).
use Rattle.std.specs.Prelude.{◌≡◌, ℕ, ◌≤◌, ◌<◌, ◌^◌, List, map, All, IfSome}
use Rattle.httparse.specs.Grammar.{AllPass, IsToken, is_value_byte, Field, ResponseHead, ReadsResponse, status_code, reason_phrase, field_value, trim_ows}
use Rattle.http_reply.specs.FieldLines.{FieldLines}
use Rattle.http_reply.specs.Phrases.{phrase}
use Rattle.http_reply.specs.Replies.{HeadParts, written_fields}

-- the name is a token, and the value has no control byte but the tab
pub record IsFieldLine (line : List ℕ × List ℕ) : Type 0 where
  pub name : IsToken line.0
  pub value : AllPass is_value_byte line.1

-- HTTP/1.0 or HTTP/1.1, a status of three digits, a length of 64 bits, and fields of these classes
pub record IsInRange (parts : HeadParts) (fields : FieldLines) : Type 0 where
  pub minor : parts.minor ≤ 1
  pub low : 100 ≤ parts.status
  pub high : parts.status ≤ 999
  pub stated : IfSome parts.length (λ n. n < 2 ^ 64)
  pub tag : AllPass is_value_byte parts.tag
  pub given : All IsFieldLine fields

-- the name and the value that the grammar reads in a field line
abbrev pub field_read : Field → List ℕ × List ℕ
field_read f = (f.name, field_value f)

-- a line whose value is without the blanks at both ends
abbrev pub trimmed_line : List ℕ × List ℕ → List ℕ × List ℕ
trimmed_line line = (line.0, trim_ows line.1)

-- the bytes are a response head with this version, status, phrase and fields, and then the rest
pub record ReadsAs (bytes : List ℕ) (parts : HeadParts) (fields : FieldLines) (rest : List ℕ) : Type 0 where
  pub head : ResponseHead
  pub reads : ReadsResponse bytes head rest
  pub minor : head.minor ≡ parts.minor
  pub status : status_code head ≡ parts.status
  pub reason : reason_phrase head.reason ≡ phrase parts.status
  pub lines : map field_read head.fields ≡ map trimmed_line (written_fields parts fields)
