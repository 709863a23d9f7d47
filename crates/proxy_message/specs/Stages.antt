-- What a whole head of a response makes of an answer (RFC 9112, section 6.3; RFC 9110, sections 6.4.1 and 15.2).
use Rattle.std.specs.Prelude.{ℕ, Bool, true, false, ◌&&◌, ◌||◌, ◌==◌, not, nat_lt, nat_le, List, [], ◌∷◌, codes, if◌then◌else◌}
use Rattle.lt_bytes.specs.Numbers.{number_of}
use Rattle.lt_bytes.specs.declared.numbers.Number.{Number}
use Rattle.lt_bytes.specs.declared.numbers.Number.TheVariants as number
use Rattle.http_header.specs.FieldValue.{FieldValue}
use Rattle.http_header.specs.HeaderMap.{Entries, get_all}
use Rattle.http_head.specs.declared.framing.Framing.TheVariants.{Length, Chunked}
use Rattle.http_head.specs.Framing.{is_chunked}
use Rattle.lt_http_body.specs.Standings as body
use Rattle.proxy_message.specs.declared.limits.TheConstants.{BODY_LIMIT}
use Rattle.proxy_message.specs.declared.stage.Stage.{Stage}
use Rattle.proxy_message.specs.declared.stage.Stage.TheVariants as stage

-- a status of 100 to 199 comes before the answer, but 101 ends HTTP on this connection
abbrev pub is_interim : ℕ → Bool
is_interim status = nat_le 100 status && (nat_le status 199 && not (status == 101))

-- a status of an answer
abbrev pub is_final : ℕ → Bool
is_final status = nat_le 200 status && nat_le status 599

-- an answer to HEAD, 204 and 304 have no body, whatever their fields say
abbrev pub has_no_body : Bool → ℕ → Bool
has_no_body head_only status = head_only || (status == 204 || status == 304)

-- a body of a stated length, within the limit
abbrev pub of_length : ℕ → Stage
of_length n = if nat_lt BODY_LIMIT n then stage.TooLarge else stage.Framed (body.begin (Length n) BODY_LIMIT)

-- a number past 64 bits counts as the greatest that they hold, which is above the limit
abbrev pub stated_by : Number → Stage
stated_by (number.Value n) = of_length n
stated_by number.Overflow = stage.TooLarge
stated_by number.NotANumber = stage.BadAnswer

-- a coding other than chunked; chunked makes Content-Length count for nothing
abbrev pub coded_by : List ℕ → Stage
coded_by coding = if is_chunked coding then stage.Framed (body.begin Chunked BODY_LIMIT) else stage.BadAnswer

-- by the values of Content-Length: one states the length, several are bad, and with none the body goes on up to the end of
-- the link
abbrev pub by_lengths : List FieldValue → Stage
by_lengths [] = stage.ToEnd BODY_LIMIT
by_lengths (l ∷ []) = stated_by (number_of 10 l.bytes)
by_lengths (l ∷ m ∷ ls) = stage.BadAnswer

-- by the values of Transfer-Encoding, of which several are bad, and where there is none by those of Content-Length
abbrev pub by_codings : List FieldValue → List FieldValue → Stage
by_codings [] lengths = by_lengths lengths
by_codings (t ∷ []) lengths = coded_by t.bytes
by_codings (t ∷ u ∷ ts) lengths = stage.BadAnswer

-- what follows a head with this status and these fields
abbrev pub content_of : Bool → ℕ → Entries FieldValue → Stage
content_of head_only status fields =
    if has_no_body head_only status then stage.Done
    else by_codings (get_all fields (codes "transfer-encoding")) (get_all fields (codes "content-length"))

-- no answer goes on
abbrev pub is_refused : Stage → Bool
is_refused stage.BadAnswer = true
is_refused stage.TooLarge = true
is_refused other = false
