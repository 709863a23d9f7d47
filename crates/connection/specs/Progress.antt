-- How far the current request is, as its body is read.
use Rattle.std.specs.Prelude.{ℕ, Bool, true, false, Result, Ok, Err}
use Rattle.lt_http_body.specs.declared.body.BodyState.{BodyState}
use Rattle.lt_http_body.specs.declared.body.BodyState.TheVariants as body
use Rattle.lt_http_body.specs.declared.body.BodyRefusal.{BodyRefusal}
use Rattle.lt_http_body.specs.declared.body.BodyRefusal.TheVariants as refused
use Rattle.lt_http_body.specs.Standings.{begin}
use Rattle.connection.specs.declared.progress.Progress.{Progress}
use Rattle.connection.specs.declared.progress.Progress.TheVariants as progress

-- its body is accepted up to a limit
abbrev pub progress_accepted : Progress → ℕ → Progress
progress_accepted (progress.Heading request) limit = progress.Taking request (begin request.framing limit)
progress_accepted other limit = other

-- what its body answered
abbrev pub progress_after : Progress → Result BodyState BodyRefusal → Progress
progress_after (progress.Taking request s) (Ok body.NeedMore) = progress.Taking request s
progress_after (progress.Taking request s) (Ok body.Done) = progress.Whole request
progress_after (progress.Taking request s) (Err refused.BadChunk) = progress.Declined 400 request
progress_after (progress.Taking request s) (Err refused.TooLarge) = progress.Declined 413 request
progress_after (progress.Taking request s) (Err refused.NoMemory) = progress.Taking request s
progress_after other answer = other

-- the answer is one on the bytes that came
abbrev pub has_memory : Result BodyState BodyRefusal → Bool
has_memory (Ok answer) = true
has_memory (Err refused.BadChunk) = true
has_memory (Err refused.TooLarge) = true
has_memory (Err refused.NoMemory) = false
