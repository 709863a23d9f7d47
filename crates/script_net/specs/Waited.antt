-- The calls of `listen` and `wait`, which fail as the script plans it (README.md of this crate, 'How a script is played').
use Rattle.std.specs.Prelude.{◌≡◌, ℕ, List, Bool, true, false, ◌&&◌, ◌==◌, Result, Ok, Err}
use Rattle.std.specs.List.{list_any}
use Rattle.lt_world.specs.declared.fault.Fault.{Fault}
use Rattle.lt_world.specs.Plans.{next}
use Rattle.lt_script.specs.declared.script.ScriptFault.{ScriptFault}
use Rattle.lt_script.specs.declared.script.FaultCall.{FaultCall}
use Rattle.lt_script.specs.declared.script.FaultCall.TheVariants as call

-- what was planned, how often each was called, and how often one of them failed
pub record Waited : Type 0 where
  pub plan : List ScriptFault
  pub listens : ℕ
  pub waits : ℕ
  pub faults : ℕ

-- nothing was called yet
abbrev pub unwaited : List ScriptFault → Waited
unwaited plan = record { plan = plan; listens = 0; waits = 0; faults = 0 }

abbrev pub is_listen : FaultCall → Bool
is_listen call.Listen = true
is_listen other = false

abbrev pub is_wait : FaultCall → Bool
is_wait call.Wait = true
is_wait other = false

-- the call of `listen` with this number is to fail
abbrev pub plans_listen : ℕ → List ScriptFault → Bool
plans_listen nth plan = list_any (λ fault. is_listen fault.call && fault.nth == nth) plan

-- the call of `wait` with this number is to fail
abbrev pub plans_wait : ℕ → List ScriptFault → Bool
plans_wait nth plan = list_any (λ fault. is_wait fault.call && fault.nth == nth) plan

-- a call fails exactly where it is to
abbrev pub FailsAs : Result (Unit {0}) Fault → Bool → Type 0
FailsAs (Ok done) due = due ≡ false
FailsAs (Err fault) due = due ≡ true

-- a count of faults after an answer
abbrev pub failed_as : Result (Unit {0}) Fault → ℕ → ℕ
failed_as (Ok done) faults = faults
failed_as (Err fault) faults = next faults

-- after a call of `listen`
abbrev pub listened : Result (Unit {0}) Fault → Waited → Waited
listened answer w = record w { listens = next w.listens; faults = failed_as answer w.faults }

-- after a call of `wait`
abbrev pub waited : Result (Unit {0}) Fault → Waited → Waited
waited answer w = record w { waits = next w.waits; faults = failed_as answer w.faults }
