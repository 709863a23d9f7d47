-- The head of a reply, and an error reply (RFC 9112, section 4; RFC 9110, sections 8.6 and 15).
use Rattle.std.specs.Prelude.{ℕ, Bool, ◌||◌, ◌==◌, List, [], ◌∷◌, ◌++◌, length, flat_map, codes, decimal, Option, Some, None, if◌then◌else◌}
use Rattle.std.specs.List.{list_any}
use Rattle.lt_bytes.specs.Words.{same_word}
use Rattle.http_reply.specs.FieldLines.{FieldLines}
use Rattle.http_reply.specs.Phrases.{phrase}

-- what a head says beside its fields: the minor version, the status, the length of the body where one is stated,
-- whether the reply is the last of its connection, whether the connection is kept in HTTP/1.0, and the server's name
pub record HeadParts : Type 0 where
  pub minor : ℕ
  pub status : ℕ
  pub length : Option ℕ
  pub last : Bool
  pub keep : Bool
  pub tag : List ℕ

abbrev pub crlf : List ℕ
crlf = 13 ∷ 10 ∷ []

-- HTTP-version SP status-code SP [ reason-phrase ] CRLF
abbrev pub status_line : ℕ → ℕ → List ℕ
status_line minor status = codes "HTTP/1." ++ (decimal minor ++ (32 ∷ decimal status ++ (32 ∷ phrase status ++ crlf)))

-- field-name ":" SP field-value CRLF
abbrev pub field_line : List ℕ × List ℕ → List ℕ
field_line (name, value) = name ++ (codes ": " ++ (value ++ crlf))

-- a reply with this status has no body, and states no length
abbrev pub has_no_body : ℕ → Bool
has_no_body status = status == 204 || status == 304

abbrev pub stated_length : Option ℕ → FieldLines
stated_length None = []
stated_length (Some n) = (codes "Content-Length", decimal n) ∷ []

abbrev pub length_field : ℕ → Option ℕ → FieldLines
length_field status length = if has_no_body status then [] else stated_length length

abbrev pub connection_field : Bool → Bool → FieldLines
connection_field last keep =
    if last then (codes "Connection", codes "close") ∷ [] else (if keep then (codes "Connection", codes "keep-alive") ∷ [] else [])

-- a field is named Server, in any case
abbrev pub names_server : FieldLines → Bool
names_server fields = list_any (λ f. same_word f.0 (codes "Server")) fields

abbrev pub server_field : FieldLines → List ℕ → FieldLines
server_field fields tag = if names_server fields then [] else (codes "Server", tag) ∷ []

-- the fields that the parts of a head give, in order
abbrev pub own_fields : HeadParts → FieldLines → FieldLines
own_fields parts fields = length_field parts.status parts.length ++ (connection_field parts.last parts.keep ++ server_field fields parts.tag)

-- every field that is written, in order
abbrev pub written_fields : HeadParts → FieldLines → FieldLines
written_fields parts fields = fields ++ own_fields parts fields

-- the head of a reply, up to and with its empty line
abbrev pub reply_head : HeadParts → FieldLines → List ℕ
reply_head parts fields = status_line parts.minor parts.status ++ (flat_map field_line (written_fields parts fields) ++ crlf)

-- the body of an error reply: the number and the phrase, as a line
abbrev pub error_body : ℕ → List ℕ
error_body status = decimal status ++ (32 ∷ phrase status ++ 10 ∷ [])

abbrev pub error_fields : FieldLines → FieldLines
error_fields fields = fields ++ (codes "Content-Type", codes "text/plain") ∷ []

-- the length of an error reply is that of its own body
abbrev pub error_parts : HeadParts → HeadParts
error_parts parts = record parts { length = Some (length (error_body parts.status)) }

-- the body where it is sent: HEAD, 204 and 304 have none
abbrev pub sent_body : ℕ → Bool → List ℕ
sent_body status head_only = if head_only || has_no_body status then [] else error_body status

-- a whole error reply; a HEAD request gets the head alone
abbrev pub error_reply : HeadParts → FieldLines → Bool → List ℕ
error_reply parts fields head_only =
    reply_head (error_parts parts) (error_fields fields) ++ sent_body parts.status head_only
