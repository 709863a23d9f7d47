-- Where a body stands, at its first byte and one byte further (RFC 9112, sections 6.2, 6.3 and 7.1).
use Rattle.std.specs.Prelude.{ℕ, ◌-◌, ◌^◌, ◌==◌, Bool, true, false, nat_lt, Option, Some, None, List, [], ◌∷◌, Result, Ok, Err, if◌then◌else◌}
use Rattle.http_head.specs.declared.framing.Framing.{Framing}
use Rattle.http_head.specs.declared.framing.Framing.TheVariants as framed
use Rattle.lt_http_body.specs.declared.limits.TheConstants.{TRAILER_LIMIT}
use Rattle.lt_http_body.specs.declared.body.BodyState.{BodyState}
use Rattle.lt_http_body.specs.declared.body.BodyState.TheVariants.{NeedMore, Done}
use Rattle.lt_http_body.specs.declared.body.BodyRefusal.{BodyRefusal}
use Rattle.lt_http_body.specs.declared.body.BodyRefusal.TheVariants as refused
use Rattle.lt_http_body.specs.declared.state.State.{State}
use Rattle.lt_http_body.specs.declared.state.State.TheVariants as state
use Rattle.lt_http_body.specs.declared.standing.Standing.{Standing}
use Rattle.lt_http_body.specs.Lines.{after_size, after_extension, after_trailer, after_trailer_line, in_data, in_stated}

-- a limit of 2^64 - 1 is none
abbrev pub limit_of : ℕ → Option ℕ
limit_of limit = if limit == 2 ^ 64 - 1 then None else Some limit

abbrev pub is_above : ℕ → Option ℕ → Bool
is_above size None = false
is_above size (Some most) = nat_lt most size

-- what is left of the limit once a chunk of this size came
abbrev pub less : Option ℕ → ℕ → Option ℕ
less None size = None
less (Some most) size = Some (most - size)

abbrev pub at : Option ℕ → State → Standing
at room where_to = record { state = where_to; room = room }

-- a body at its first byte: a stated length above the limit is refused there
abbrev pub begin : Framing → ℕ → Standing
begin framed.None limit = at (limit_of limit) state.Whole
begin (framed.Length n) limit = at (limit_of limit) (if is_above n (limit_of limit) then state.TooLarge else in_stated n)
begin framed.Chunked limit = at (limit_of limit) (state.Size 0 0)

-- behind a whole size line: the trailer behind size 0, else the chunk's data, where the sum isn't above the limit
abbrev pub after_size_line : Option ℕ → ℕ → Standing
after_size_line room size =
    if size == 0 then at room (state.Trailer TRAILER_LIMIT)
    else (if is_above size room then at room state.TooLarge else at (less room size) (state.Data size))

-- CR or LF where nothing else goes on
abbrev pub only : ℕ → ℕ → State → State
only wanted byte next = if byte == wanted then next else state.BadChunk

abbrev pub step_from : Option ℕ → ℕ → State → Standing
step_from room byte (state.Stated left) = at room (in_stated (left - 1))
step_from room byte (state.Size digits size) = at room (after_size digits size byte)
step_from room byte (state.Extension left size) = at room (after_extension left size byte)
step_from room byte (state.SizeFeed size) = if byte == 10 then after_size_line room size else at room state.BadChunk
step_from room byte (state.Data left) = at room (in_data (left - 1))
step_from room byte state.DataReturn = at room (only 13 byte state.DataFeed)
step_from room byte state.DataFeed = at room (only 10 byte (state.Size 0 0))
step_from room byte (state.Trailer left) = at room (after_trailer left byte)
step_from room byte (state.TrailerLine left) = at room (after_trailer_line left byte)
step_from room byte (state.TrailerFeed left) = at room (only 10 byte (state.Trailer (left - 1)))
step_from room byte state.LastFeed = at room (only 10 byte state.Whole)
step_from room byte over = at room over

-- one byte further; where the body has ended or is refused it stays so
unfoldable pub step : Standing → ℕ → Standing
step s byte = step_from s.room byte s.state

-- the body has ended or is refused, so that no byte is its own any more
abbrev pub is_over : State → Bool
is_over state.Whole = true
is_over state.BadChunk = true
is_over state.TooLarge = true
is_over other = false

-- the next byte belongs to a line: it is the body's own, and no data
abbrev pub is_in_line : State → Bool
is_in_line (state.Stated left) = false
is_in_line (state.Data left) = false
is_in_line state.Whole = false
is_in_line state.BadChunk = false
is_in_line state.TooLarge = false
is_in_line other = true

-- how many bytes of data come next
abbrev pub left_of : State → ℕ
left_of (state.Stated left) = left
left_of (state.Data left) = left
left_of other = 0

-- the byte, where it is data
abbrev pub kept_from : State → ℕ → List ℕ
kept_from (state.Stated left) byte = byte ∷ []
kept_from (state.Data left) byte = byte ∷ []
kept_from other byte = []

-- what is answered there
abbrev pub answer_from : State → Result BodyState BodyRefusal
answer_from state.Whole = Ok Done
answer_from state.BadChunk = Err refused.BadChunk
answer_from state.TooLarge = Err refused.TooLarge
answer_from other = Ok NeedMore

-- once so many bytes of its data came
abbrev pub without_from : ℕ → State → State
without_from n (state.Stated left) = in_stated (left - n)
without_from n (state.Data left) = in_data (left - n)
without_from n other = other
