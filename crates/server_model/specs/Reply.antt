-- The reply to each request of a client, by its number.
use Rattle.std.specs.Prelude.{ℕ, ◌+◌, ◌==◌, nat_le, nat_lt, List, [], ◌∷◌, ◌++◌, length, codes, Bool, true, false, not, ◌&&◌, Option, Some, None, if◌then◌else◌}
use Rattle.http_head.specs.declared.framing.Framing.{Framing}
use Rattle.http_head.specs.declared.framing.Framing.TheVariants as framed
use Rattle.http_reply.specs.FieldLines.{FieldLines}
use Rattle.http_reply.specs.Replies.{HeadParts, reply_head, error_reply}
use Rattle.server_model.specs.Settings.{Settings, settings_of, limit_for, is_last_request}
use Rattle.server_model.specs.Request.{Head, Request, Unfinished, Refused, Open, Declined, Complete, Limits}
use Rattle.server_model.specs.World.{World}
use Rattle.server_model.specs.Plan.{Content, Nothing, Bytes, Outcome, is_head, plan}

pub data Extent : Type 0 where
  -- nothing further, and its request isn't whole
  Growing : Extent
  Whole : Extent

pub record Reply : Type 0 where
  pub bytes : List ℕ
  pub extent : Extent
  -- no further request is served on the connection
  pub last : Bool

-- the head of a reply in HTTP/1 and a minor version; HTTP/1.0 is told that its connection is kept (RFC 9112, sections 9.3 and 9.6)
abbrev pub head_parts : List ℕ → ℕ → ℕ → Option ℕ → Bool → HeadParts
head_parts tag minor status length last = record { minor = minor; status = status; length = length; last = last; keep = not last && minor == 0; tag = tag }

-- a status in words, with its body unless only the head was asked for
abbrev pub error_bytes : List ℕ → ℕ → ℕ → FieldLines → Bool → Bool → List ℕ
error_bytes tag minor status fields last head_only = error_reply (head_parts tag minor status None last) fields head_only

-- the head before so many bytes of a file
abbrev pub content_head : List ℕ → ℕ → ℕ → FieldLines → ℕ → Bool → List ℕ
content_head tag minor status fields size last = reply_head (head_parts tag minor status (Some size) last) fields

-- HEAD gets no body (RFC 9110, section 9.3.2)
abbrev pub body_for : List ℕ → List ℕ → List ℕ
body_for method bytes = if is_head method then [] else bytes

-- a body follows that is accepted: in chunks, or of a stated length that is within the limit
abbrev pub is_accepted : Framing → ℕ → Bool
is_accepted framed.None limit = false
is_accepted (framed.Length n) limit = nat_lt 0 n && nat_le n limit
is_accepted framed.Chunked limit = true

-- a client that waits for it is told first to go on (RFC 9110, sections 10.1.1 and 15.2.1)
abbrev pub continue_bytes : Head → ℕ → List ℕ
continue_bytes head limit = if head.expect && is_accepted head.framing limit then codes "HTTP/1.1 100 Continue" ++ 13 ∷ 10 ∷ 13 ∷ 10 ∷ [] else []

abbrev pub continue_of : Limits → Head → List ℕ
continue_of limits head = continue_bytes head (limits head)

abbrev pub no_reply : Reply
no_reply = record { bytes = []; extent = Growing; last = false }

abbrev pub whole_reply : List ℕ → Bool → Reply
whole_reply bytes last = record { bytes = bytes; extent = Whole; last = last }

abbrev pub bytes_by : Head → Bool → Outcome → Content → List ℕ
bytes_by head last o Nothing = error_bytes o.settings.tag head.minor o.status o.fields last (is_head head.method)
bytes_by head last o (Bytes bytes) = content_head o.settings.tag head.minor o.status o.fields (length bytes) last ++ body_for head.method bytes

abbrev pub final_bytes : Head → Bool → Outcome → List ℕ
final_bytes head last o = bytes_by head last o o.content

-- an error that is planned without a request's body, or without its head
abbrev pub refusal_bytes : Settings → ℕ → ℕ → Bool → List ℕ
refusal_bytes settings minor status head_only = error_bytes settings.tag minor status [] true head_only

-- as is planned for request k, behind what its client was told first
abbrev pub planned_reply : ℕ → Head → List ℕ → Outcome → Reply
planned_reply k head first o = whole_reply (first ++ final_bytes head (is_last_request o.settings.request_limit k head) o) (is_last_request o.settings.request_limit k head)

-- the reply to request k; where no head was read, it is in HTTP/1.1
abbrev pub reply : World → ℕ → Request → Reply
reply world k Unfinished = no_reply
reply world k (Refused status) = whole_reply (refusal_bytes (settings_of world None) 1 status false) true
reply world k (Open head) = record { bytes = continue_of (limit_for world) head; extent = Growing; last = false }
reply world k (Declined status head) = whole_reply (continue_of (limit_for world) head ++ refusal_bytes (settings_of world (Some head)) head.minor status (is_head head.method)) true
reply world k (Complete head content) = planned_reply k head (continue_of (limit_for world) head) (plan world k head)

-- those to these requests, the first of which has number k
abbrev pub replies : World → ℕ → List Request → List Reply
replies world k [] = []
replies world k (r ∷ rs) = reply world k r ∷ replies world (k + 1) rs
