-- What comes of an attempt at a gateway, by what was said on its link. A kind of gateway has two functions: what is asked of it, and what the bytes of its link come to.
use Rattle.std.specs.Prelude.{ℕ, Bool, true, false, ◌||◌, List, [], ◌∷◌, ◌++◌, if◌then◌else◌}
use Rattle.cgi_text.specs.declared.head.CgiHead.{CgiHead}
use Rattle.cgi_text.specs.declared.state.GateState.{GateState}
use Rattle.cgi_text.specs.declared.state.GateState.TheVariants as state

-- what was said on a link: all bytes that were read from it and all that it took, whether it has ended, and whether a read or a write of it failed
pub record Exchange : Type 0 where
  pub input : List ℕ
  pub output : List ℕ
  pub ended : Bool
  pub failed : Bool

-- nothing was said yet
abbrev pub silence : Exchange
silence = record { input = []; output = []; ended = false; failed = false }

-- these bytes were read besides, and these were taken
abbrev pub with_input : List ℕ → Exchange → Exchange
with_input bytes e = record e { input = e.input ++ bytes }

abbrev pub with_output : List ℕ → Exchange → Exchange
with_output bytes e = record e { output = e.output ++ bytes }

-- it has ended, and it failed
abbrev pub with_end : Exchange → Exchange
with_end e = record e { ended = true }

abbrev pub with_failure : Exchange → Exchange
with_failure e = record e { failed = true }

-- what the bytes of a link come to
pub data Heard : Type 0 where
  -- more is to come
  Partly : Heard
  -- a whole answer that is good: its head and its body
  Fully : CgiHead → List ℕ → Heard
  -- no answer begins with them, or the answer is whole and no good one
  Breaks : Heard
  -- the body of the answer is above its limit
  Exceeds : Heard

-- what came of an attempt
pub data AttemptResult : Type 0 where
  Running : AttemptResult
  Answered : CgiHead → List ℕ → AttemptResult
  -- it is over and the gateway took no byte, so that another host may be asked
  Lost : AttemptResult
  -- it is over, and the gateway may have acted upon what it took
  Bad : AttemptResult
  TooMuch : AttemptResult

-- over without an answer: by the bytes that the gateway took
abbrev pub over_with : List ℕ → AttemptResult
over_with [] = Lost
over_with (b ∷ bytes) = Bad

-- the first of these that holds: a body above its limit, a good answer, an attempt that is over; else it goes on
abbrev pub result_by : Heard → Bool → List ℕ → AttemptResult
result_by Exceeds over output = TooMuch
result_by (Fully head body) over output = Answered head body
result_by Breaks over output = over_with output
result_by Partly over output = if over then over_with output else Running

-- where this is what the bytes of a link come to, and whether it has ended may tell too. An attempt whose connect failed is Lost
abbrev pub result_of : (List ℕ → Bool → Heard) → Exchange → AttemptResult
result_of heard e = result_by (heard e.input e.ended) (e.ended || e.failed) e.output

-- and what a task answers then
abbrev pub state_of : AttemptResult → GateState
state_of Running = state.Waiting
state_of (Answered head body) = state.Answer
state_of Lost = state.Retry
state_of Bad = state.Bad502
state_of TooMuch = state.Bad502

-- a task that answered Retry stands as when it was made
abbrev pub left_by : GateState → Exchange → Exchange
left_by state.Retry e = silence
left_by other e = e
