-- One byte of the lines of a chunked body (RFC 9112, section 7.1): what the next byte belongs to.
use Rattle.std.specs.Prelude.{ℕ, ◌+◌, ◌-◌, ◌*◌, ◌==◌, nat_lt, if◌then◌else◌}
use Rattle.std.specs.Char.{digit_value}
use Rattle.lt_http_body.specs.declared.limits.TheConstants.{SIZE_DIGITS, EXTENSION_LIMIT}
use Rattle.lt_http_body.specs.declared.state.State.{State}
use Rattle.lt_http_body.specs.declared.state.State.TheVariants.{Size, Extension, SizeFeed, Trailer, TrailerLine, TrailerFeed, LastFeed, DataReturn, Whole, BadChunk, Data, Stated}

-- behind so many digits of a size: one more, or CR or `;` where there is one already
abbrev pub after_size : ℕ → ℕ → ℕ → State
after_size digits size byte =
    if nat_lt (digit_value byte) 16 then (if nat_lt digits SIZE_DIGITS then Size (digits + 1) (size * 16 + digit_value byte) else BadChunk)
    else (if digits == 0 then BadChunk
    else (if byte == 13 then SizeFeed size
    else (if byte == 59 then Extension EXTENSION_LIMIT size else BadChunk)))

-- in extensions that may have so many more bytes
abbrev pub after_extension : ℕ → ℕ → ℕ → State
after_extension left size byte =
    if byte == 13 then SizeFeed size
    else (if byte == 10 then BadChunk
    else (if left == 0 then BadChunk else Extension (left - 1) size))

-- a byte of a trailer line, behind which two more end the line and the trailer
abbrev pub line_byte : ℕ → State
line_byte left = if nat_lt left 3 then BadChunk else TrailerLine (left - 1)

-- the CR of a trailer line
abbrev pub line_return : ℕ → State
line_return left = if nat_lt left 3 then BadChunk else TrailerFeed (left - 1)

-- at the front of a trailer line: an empty line ends the body
abbrev pub after_trailer : ℕ → ℕ → State
after_trailer left byte =
    if byte == 10 then Whole
    else (if byte == 13 then (if nat_lt left 2 then BadChunk else LastFeed)
    else line_byte left)

abbrev pub after_trailer_line : ℕ → ℕ → State
after_trailer_line left byte =
    if byte == 10 then Trailer (left - 1)
    else (if byte == 13 then line_return left else line_byte left)

-- in a chunk's data with so many bytes to come
abbrev pub in_data : ℕ → State
in_data left = if left == 0 then DataReturn else Data left

-- in a body of a stated length with so many bytes to come
abbrev pub in_stated : ℕ → State
in_stated left = if left == 0 then Whole else Stated left
