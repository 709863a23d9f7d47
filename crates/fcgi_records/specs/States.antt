-- Where a stream of records from an application stands, one byte further at a time (FastCGI Specification 1.0, sections 3.3, 5.3 and 5.5).
use Rattle.std.specs.Prelude.{ℕ, ◌+◌, ◌-◌, ◌*◌, ◌==◌, Bool, true, false, List, [], ◌∷◌, Result, Ok, Err, if◌then◌else◌}
use Rattle.fcgi_records.specs.declared.header.Header.{Header}
use Rattle.fcgi_records.specs.declared.state.Cause.{Cause}
use Rattle.fcgi_records.specs.declared.state.Cause.TheVariants as cause
use Rattle.fcgi_records.specs.declared.state.State.{State}
use Rattle.fcgi_records.specs.declared.state.State.TheVariants as state
use Rattle.fcgi_records.specs.declared.reader.ReaderState.{ReaderState}
use Rattle.fcgi_records.specs.declared.reader.ReaderState.TheVariants.{Open, Done}
use Rattle.fcgi_records.specs.declared.reader.RecordFault.{RecordFault}
use Rattle.fcgi_records.specs.declared.reader.RecordFault.TheVariants as fault

-- a number of two bytes, the high one first
abbrev pub number : ℕ → ℕ → ℕ
number high low = high * 256 + low

-- a header of which the version came
abbrev pub of_version : ℕ → Header
of_version byte = record { version = byte; kind = 0; id_high = 0; id_low = 0; length_high = 0; length_low = 0; padding = 0 }

-- behind the content of a record of STDOUT or STDERR with so many bytes of padding to come
abbrev pub in_padding : ℕ → State
in_padding left = if left == 0 then state.Version else state.Padding left

-- in a record of STDOUT, and of STDERR, with so many bytes of content to come
abbrev pub in_stdout : ℕ → ℕ → State
in_stdout left padding = if left == 0 then in_padding padding else state.Stdout left padding

abbrev pub in_stderr : ℕ → ℕ → State
in_stderr left padding = if left == 0 then in_padding padding else state.Stderr left padding

-- in END_REQUEST: the application's status, the unused bytes behind the protocol status, the padding
abbrev pub in_end_padding : ℕ → State
in_end_padding left = if left == 0 then state.Whole else state.EndPadding left

abbrev pub in_unused : ℕ → ℕ → State
in_unused left padding = if left == 0 then in_end_padding padding else state.Unused left padding

abbrev pub in_status : ℕ → ℕ → State
in_status left padding = if left == 0 then state.ProtocolStatus padding else state.Status left padding

-- a whole header whose version and id are right, by its type
abbrev pub by_kind : Header → State
by_kind h =
    if h.kind == 6 then in_stdout (number h.length_high h.length_low) h.padding
    else (if h.kind == 7 then in_stderr (number h.length_high h.length_low) h.padding
    else (if h.kind == 3 then (if number h.length_high h.length_low == 8 then state.Status 4 h.padding else state.Broken cause.WrongEnd)
    else state.Broken cause.WrongType))

-- a whole header: its version, then its id, its type, and the length of END_REQUEST
abbrev pub judged : Header → State
judged h =
    if h.version == 1 then (if number h.id_high h.id_low == 1 then by_kind h else state.Broken cause.WrongId)
    else state.Broken cause.WrongVersion

-- the protocol status is FCGI_REQUEST_COMPLETE
abbrev pub after_protocol : ℕ → ℕ → State
after_protocol byte padding = if byte == 0 then in_unused 3 padding else state.Broken (cause.Refused byte)

abbrev pub step_from : ℕ → State → State
step_from byte state.Version = state.Kind (of_version byte)
step_from byte (state.Kind h) = state.IdHigh (record h { kind = byte })
step_from byte (state.IdHigh h) = state.IdLow (record h { id_high = byte })
step_from byte (state.IdLow h) = state.LengthHigh (record h { id_low = byte })
step_from byte (state.LengthHigh h) = state.LengthLow (record h { length_high = byte })
step_from byte (state.LengthLow h) = state.PaddingLength (record h { length_low = byte })
step_from byte (state.PaddingLength h) = state.Reserved (record h { padding = byte })
step_from byte (state.Reserved h) = judged h
step_from byte (state.Stdout left padding) = in_stdout (left - 1) padding
step_from byte (state.Stderr left padding) = in_stderr (left - 1) padding
step_from byte (state.Padding left) = in_padding (left - 1)
step_from byte (state.Status left padding) = in_status (left - 1) padding
step_from byte (state.ProtocolStatus padding) = after_protocol byte padding
step_from byte (state.Unused left padding) = in_unused (left - 1) padding
step_from byte (state.EndPadding left) = in_end_padding (left - 1)
step_from byte state.Whole = state.Broken cause.AfterEnd
step_from byte (state.Broken why) = state.Broken why

-- one byte further; what is refused stays so
unfoldable pub step : State → ℕ → State
step s byte = step_from byte s

-- no byte is read any more
abbrev pub is_broken : State → Bool
is_broken (state.Broken why) = true
is_broken other = false

-- the next byte is read, and is none of STDOUT
abbrev pub is_framing : State → Bool
is_framing (state.Stdout left padding) = false
is_framing (state.Broken why) = false
is_framing other = true

-- how many bytes of STDOUT come next
abbrev pub left_of : State → ℕ
left_of (state.Stdout left padding) = left
left_of other = 0

-- once so many of them came
abbrev pub without_from : ℕ → State → State
without_from n (state.Stdout left padding) = in_stdout (left - n) padding
without_from n other = other

-- the byte, where it is of STDOUT
abbrev pub kept_from : State → ℕ → List ℕ
kept_from (state.Stdout left padding) byte = byte ∷ []
kept_from other byte = []

abbrev pub fault_of : Cause → RecordFault
fault_of cause.WrongVersion = fault.WrongVersion
fault_of cause.WrongId = fault.WrongId
fault_of cause.WrongType = fault.WrongType
fault_of cause.WrongEnd = fault.WrongEnd
fault_of (cause.Refused protocol) = fault.Refused protocol
fault_of cause.AfterEnd = fault.AfterEnd

-- what is answered there
abbrev pub answer_from : State → Result ReaderState RecordFault
answer_from state.Whole = Ok Done
answer_from (state.Broken why) = Err (fault_of why)
answer_from other = Ok Open
