-- What bytes say (FastCGI Specification 1.0, section 3.3).
use Rattle.std.specs.Prelude.{◌≡◌, ℕ, ◌+◌, List, [], ◌∷◌, ◌++◌, length, Result, Ok, Err, if◌then◌else◌}
use Rattle.fcgi_records.specs.declared.state.Cause.{Cause}
use Rattle.fcgi_records.specs.declared.state.State.{State}
use Rattle.fcgi_records.specs.declared.state.State.TheVariants as state
use Rattle.fcgi_records.specs.declared.reader.ReaderState.{ReaderState}
use Rattle.fcgi_records.specs.declared.reader.ReaderState.TheVariants as answered
use Rattle.fcgi_records.specs.declared.reader.RecordFault.{RecordFault}
use Rattle.fcgi_records.specs.States.{step, is_broken, kept_from, fault_of}

-- where the stream stands behind the bytes
unfoldable pub state_after : State → List ℕ → State
state_after s [] = s
state_after s (byte ∷ bytes) = state_after (step s byte) bytes

-- the content of STDOUT among the bytes
unfoldable pub stdout_in : State → List ℕ → List ℕ
stdout_in s [] = []
stdout_in s (byte ∷ bytes) = kept_from s byte ++ stdout_in (step s byte) bytes

-- how many of the bytes are read: all, or those up to the byte that is refused
unfoldable pub taken_in : State → List ℕ → ℕ
taken_in s [] = 0
taken_in s (byte ∷ bytes) = (if is_broken s then 0 else 1) + taken_in (step s byte) bytes

-- what bytes say: a part of the content of STDOUT, all of it, or what stands in front of the byte that is refused
pub data Said : Type 0 where
  Open : List ℕ → Said
  Done : List ℕ → Said
  Broken : Cause → List ℕ → Said

abbrev pub said_at : State → List ℕ → Said
said_at state.Whole stdout = Done stdout
said_at (state.Broken why) stdout = Broken why stdout
said_at other stdout = Open stdout

-- what all bytes that came say
abbrev pub said : List ℕ → Said
said bytes = said_at (state_after state.Version bytes) (stdout_in state.Version bytes)

-- and what is answered for them
abbrev pub answer_of : Said → Result ReaderState RecordFault
answer_of (Open stdout) = Ok answered.Open
answer_of (Done stdout) = Ok answered.Done
answer_of (Broken why stdout) = Err (fault_of why)

-- the bytes have no content of STDOUT, all are read, and the stream stands there behind them
pub record Passes (s : State) (bytes : List ℕ) (behind : State) : Type 0 where
  pub stands : state_after s bytes ≡ behind
  pub none : stdout_in s bytes ≡ []
  pub all : taken_in s bytes ≡ length bytes
