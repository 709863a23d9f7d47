-- What is kept of an attempt, and what it stands for.
use Rattle.std.specs.Prelude.{◌≡◌, ℕ, ◌||◌, ◌++◌, Bool, true, false, List, [], ◌∷◌, if◌then◌else◌}
use Rattle.cgi_text.specs.declared.state.GateState.{GateState}
use Rattle.cgi_text.specs.declared.state.GateState.TheVariants as state
use Rattle.cgi_text.specs.Attempts.{Exchange, Heard, Partly, Fully, Breaks, Exceeds}
use Rattle.fcgi_records.specs.declared.state.State.{State}
use Rattle.fcgi_records.specs.declared.state.State.TheVariants.{Version}
use Rattle.fcgi_records.specs.Reading.{state_after, stdout_in}
use Rattle.fcgi_gateway.specs.Heard.{heard}

-- what is still to be sent, and those of its first bytes that are offered; whether a byte was taken; whether the link has ended
-- or failed; where the stream of records stands, the content of STDOUT, and what it comes to; the numbers of the buffers
pub record Task : Type 0 where
  pub unsent : List ℕ
  pub offer : List ℕ
  pub begun : Bool
  pub over : Bool
  pub stands : State
  pub stdout : List ℕ
  pub heard : Heard
  pub numbers : List ℕ

abbrev pub is_some_byte : List ℕ → Bool
is_some_byte [] = false
is_some_byte (b ∷ bytes) = true

-- the attempt of a request that asks this, after this was said on its link
pub record IsAt (asks : List ℕ) (e : Exchange) (t : Task) : Type 0 where
  pub sends : e.output ++ t.unsent ≡ asks
  pub begun : t.begun ≡ is_some_byte e.output
  pub over : t.over ≡ (e.ended || e.failed)
  pub stands : t.stands ≡ state_after Version e.input
  pub stdout : t.stdout ≡ stdout_in Version e.input
  pub heard : t.heard ≡ heard e.input e.ended

-- over without an answer
abbrev pub over_by : Bool → GateState
over_by begun = if begun then state.Bad502 else state.Retry

-- the state, by what is kept
abbrev pub state_by : Heard → Bool → Bool → GateState
state_by Exceeds over begun = state.Bad502
state_by (Fully head body) over begun = state.Answer
state_by Breaks over begun = over_by begun
state_by Partly over begun = if over then over_by begun else state.Waiting

abbrev pub is_answered : Heard → Bool
is_answered (Fully head body) = true
is_answered other = false
