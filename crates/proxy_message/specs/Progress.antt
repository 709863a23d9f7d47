-- Where an answer stands, at its first byte and one byte further (RFC 9112, sections 2.2 and 6.3).
use Rattle.std.specs.Prelude.{ℕ, ◌-◌, ◌==◌, nat_lt, Bool, true, false, List, [], ◌∷◌, ◌++◌, length, Option, Some, None, Result, Ok, Err, if◌then◌else◌}
use Rattle.httparse.specs.Grammar.{ResponseHead, status_code}
use Rattle.http_header.specs.FieldValue.{FieldValue}
use Rattle.http_header.specs.HeaderMap.{Entries}
use Rattle.http_head.specs.declared.ends.HeadEnd.{HeadEnd}
use Rattle.http_head.specs.declared.ends.HeadEnd.TheVariants as ends
use Rattle.http_head.specs.declared.limits.TheConstants.{FIELD_LINE_LIMIT}
use Rattle.http_head.specs.Ends.{head_end}
use Rattle.lt_http_body.specs.Standings as body
use Rattle.lt_http_body.specs.declared.state.State.{State}
use Rattle.lt_http_body.specs.declared.state.State.TheVariants as state
use Rattle.cgi_text.specs.declared.head.CgiHead.{CgiHead}
use Rattle.cgi_text.specs.Head.{fields_of}
use Rattle.cgi_text.specs.Passed.{passed_on, stated_of}
use Rattle.proxy_message.specs.declared.progress.Progress.{Progress}
use Rattle.proxy_message.specs.declared.refusal.AnswerState.{AnswerState}
use Rattle.proxy_message.specs.declared.refusal.AnswerState.TheVariants.{NeedMore, Done}
use Rattle.proxy_message.specs.declared.refusal.AnswerRefusal.{AnswerRefusal}
use Rattle.proxy_message.specs.declared.refusal.AnswerRefusal.TheVariants as refused
use Rattle.proxy_message.specs.declared.stage.Stage.{Stage}
use Rattle.proxy_message.specs.declared.stage.Stage.TheVariants as stage
use Rattle.proxy_message.specs.Responses.{read_response}
use Rattle.proxy_message.specs.Stages.{is_interim, is_final, content_of, is_refused}

-- no head of the answer came yet
abbrev pub before : Bool → Stage → Progress
before head_only where_to = record { head_only = head_only; head = None; stage = where_to }

-- an answer at its first byte, or behind heads that come before it
abbrev pub begin : Bool → Progress
begin head_only = before head_only (stage.Head [])

abbrev pub with_stage : Progress → Stage → Progress
with_stage p where_to = record p { stage = where_to }

-- what a head of so many bytes says, with this status and these fields
abbrev pub head_of : ℕ → ℕ → Entries FieldValue → CgiHead
head_of size status fields =
    record { status = status; fields = passed_on fields; length = size; stated = stated_of fields }

-- behind the head of the answer, which is lent unless the answer is refused there
abbrev pub behind_head : Bool → CgiHead → Stage → Progress
behind_head head_only head where_to =
    record { head_only = head_only; head = (if is_refused where_to then None else Some head); stage = where_to }

-- by the status: a head that comes before the answer, that of the answer, or none
abbrev pub by_status : Bool → ℕ → ℕ → Entries FieldValue → Progress
by_status head_only size status fields =
    if is_interim status then begin head_only
    else (if is_final status then behind_head head_only (head_of size status fields) (content_of head_only status fields)
    else before head_only stage.BadAnswer)

-- a head that the grammar does not read, or that has too many fields, is bad
abbrev pub by_response : Bool → ℕ → Option (ResponseHead × List ℕ) → Progress
by_response head_only size None = before head_only stage.BadAnswer
by_response head_only size (Some p) =
    if nat_lt FIELD_LINE_LIMIT (length p.0.fields) then before head_only stage.BadAnswer
    else by_status head_only size (status_code p.0) (fields_of p.0.fields)

-- behind a whole head
abbrev pub judged : Bool → List ℕ → Progress
judged head_only bytes = by_response head_only (length bytes) (read_response bytes)

abbrev pub headed_by : Bool → List ℕ → HeadEnd → Progress
headed_by head_only bytes (ends.At n) = judged head_only bytes
headed_by head_only bytes ends.NotYet = before head_only (stage.Head bytes)
headed_by head_only bytes ends.TooLarge = before head_only stage.BadAnswer

-- behind these bytes of a head: it is judged as soon as it has ended, and is bad where it hasn't within the limit
abbrev pub headed : Bool → List ℕ → Progress
headed head_only bytes = headed_by head_only bytes (head_end bytes)

abbrev pub step_from : Progress → ℕ → Stage → Progress
step_from p byte (stage.Head bytes) = headed p.head_only (bytes ++ byte ∷ [])
step_from p byte (stage.Framed content) = with_stage p (stage.Framed (body.step content byte))
step_from p byte (stage.ToEnd left) = with_stage p (if left == 0 then stage.TooLarge else stage.ToEnd (left - 1))
step_from p byte over = with_stage p over

-- one byte further; where the answer has ended or is refused it stays so
unfoldable pub step : Progress → ℕ → Progress
step p byte = step_from p byte p.stage

-- no further byte belongs to the answer
abbrev pub is_over : Stage → Bool
is_over (stage.Head bytes) = false
is_over (stage.Framed content) = body.is_over content.state
is_over (stage.ToEnd left) = false
is_over other = true

-- the byte, where it belongs to the body
abbrev pub kept_from : Stage → ℕ → List ℕ
kept_from (stage.Framed content) byte = body.kept_from content.state byte
kept_from (stage.ToEnd left) byte = if left == 0 then [] else byte ∷ []
kept_from other byte = []

abbrev pub framed_answer : State → Result AnswerState AnswerRefusal
framed_answer state.Whole = Ok Done
framed_answer state.BadChunk = Err refused.BadAnswer
framed_answer state.TooLarge = Err refused.TooLarge
framed_answer other = Ok NeedMore

-- what is answered there
abbrev pub answer_from : Stage → Result AnswerState AnswerRefusal
answer_from (stage.Head bytes) = Ok NeedMore
answer_from (stage.Framed content) = framed_answer content.state
answer_from (stage.ToEnd left) = Ok NeedMore
answer_from stage.Done = Ok Done
answer_from stage.BadAnswer = Err refused.BadAnswer
answer_from stage.TooLarge = Err refused.TooLarge

-- where it stands once the link has ended: a body that goes on up to there is whole, and all else that is not whole is bad
abbrev pub ended_from : Stage → Stage
ended_from (stage.Head bytes) = stage.BadAnswer
ended_from (stage.Framed content) = if body.is_over content.state then stage.Framed content else stage.BadAnswer
ended_from (stage.ToEnd left) = stage.Done
ended_from over = over

abbrev pub ended : Progress → Progress
ended p = with_stage p (ended_from p.stage)

-- bytes of a head come next
abbrev pub is_head : Stage → Bool
is_head (stage.Head bytes) = true
is_head other = false
