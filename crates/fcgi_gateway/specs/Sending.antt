-- What of a request is still to be sent, by what is sent next.
use Rattle.std.specs.Prelude.{◌≡◌, ℕ, ◌+◌, ◌-◌, ◌<◌, ◌≤◌, ◌==◌, nat_lt, List, [], ◌∷◌, ◌++◌, length, take, drop, min, if◌then◌else◌}
use Rattle.fcgi_records.specs.Encoded.{header_of}
use Rattle.fcgi_records.specs.declared.kinds.TheConstants.{STDIN}
use Rattle.fcgi_gateway.specs.Asked.{stream}
use Rattle.fcgi_gateway.specs.declared.sending.TheConstants.{RECORD_SIZE}
use Rattle.fcgi_gateway.specs.declared.sending.Sending.{Sending}
use Rattle.fcgi_gateway.specs.declared.sending.Sending.TheVariants as next

-- content of a record, and the records behind it
abbrev pub content_and_more : ℕ → List ℕ → List ℕ
content_and_more left body = take left body ++ stream STDIN (drop left body)

-- behind the header of the record with which the body begins
abbrev pub behind_header : List ℕ → List ℕ
behind_header [] = []
behind_header (b ∷ body) = content_and_more (min (length (b ∷ body)) RECORD_SIZE) (b ∷ body)

-- all that is still to be sent, where this comes before the body and this is left of it
abbrev pub unsent_of : List ℕ → List ℕ → Sending → List ℕ
unsent_of lead body (next.Lead taken) = drop taken lead ++ behind_header body
unsent_of lead body (next.Content left) = content_and_more left body
unsent_of lead body (next.Header header taken) = drop taken header ++ behind_header body
unsent_of lead body next.Done = []

-- those first bytes of it that lie together, where this is what of the body can leave
abbrev pub offer_of : List ℕ → List ℕ → Sending → List ℕ
offer_of lead front (next.Lead taken) = drop taken lead
offer_of lead front (next.Content left) = take left front
offer_of lead front (next.Header header taken) = drop taken header
offer_of lead front next.Done = []

-- what is left of the body once so many bytes were taken
abbrev pub body_after : ℕ → List ℕ → Sending → List ℕ
body_after n body (next.Content left) = drop n body
body_after n body other = body

abbrev pub behind_header_at : ℕ → Sending
behind_header_at body = if body == 0 then next.Done else next.Content (min body RECORD_SIZE)

abbrev pub header_before : ℕ → Sending
header_before body = next.Header (header_of STDIN (min body RECORD_SIZE)) 0

-- what is sent next once n more bytes were taken, and so many bytes of the body are left
abbrev pub sending_after : ℕ → ℕ → ℕ → Sending → Sending
sending_after n lead body (next.Lead taken) = if nat_lt n (lead - taken) then next.Lead (taken + n) else behind_header_at body
sending_after n lead body (next.Content left) = if nat_lt n left then next.Content (left - n) else header_before body
sending_after n lead body (next.Header header taken) = if nat_lt n (8 - taken) then next.Header header (taken + n) else behind_header_at body
sending_after n lead body next.Done = next.Done

-- a byte is still to be taken of what is sent next
abbrev pub IsSoundSending : List ℕ → List ℕ → Sending → Type 0
IsSoundSending lead body (next.Lead taken) = taken < length lead
IsSoundSending lead body (next.Content left) = (0 < left) × (left ≤ length body)
IsSoundSending lead body (next.Header header taken) = (length header ≡ 8) × (taken < 8)
IsSoundSending lead body next.Done = Unit {0}

-- so many bytes of the content of a record may be taken, where content is sent next and this is what of the body can leave
abbrev pub IsContentWithin : ℕ → List ℕ → Sending → Type 0
IsContentWithin n front (next.Content left) = n ≤ length (take left front)
IsContentWithin n front other = Unit {0}
