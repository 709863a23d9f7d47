-- The configuration that a call loads, or why there is none.
use Rattle.std.specs.Prelude.{◌≡◌, ◌⊎◌, ℕ, List, None, Result, Ok, Err}
use Rattle.lt_world.specs.Causes.{Rose}
use Rattle.lt_world.specs.TextAnswers.{Library}
use Rattle.conf_eval.specs.Load.{load, Outcome, Ended}
use Rattle.conf_eval.specs.Answers.{Caused, OnCourse, with_all}
use Rattle.conf_eval.specs.Calls.{Calls}
use Rattle.conf_eval.specs.declared.fault.ConfFault.{ConfFault}
use Rattle.conf_eval.specs.declared.fault.ConfKind.{ConfKind}
use Rattle.conf_eval.specs.declared.fault.ConfKind.TheVariants as kind
use Rattle.conf_eval.specs.declared.fault.LoadError.TheVariants as e
use Rattle.conf_eval.specs.declared.fault.Loaded.{Loaded}
use Rattle.lt_commands.specs.declared.status.Status.{Status}
use Rattle.lt_commands.specs.declared.status.Status.TheVariants as status

-- The texts spell this configuration, under this name. Of calls on texts and on a maker that give one none failed, and no
-- pattern was refused; so it is one, whatever texts and maker answer.
abbrev pub HasConf : Library → List ℕ → Loaded → Type 0
HasConf library name loaded = (calls : Calls) × (load library name calls ≡ Ended (Ok loaded))

abbrev pub HasSomeConf : Library → List ℕ → Type 0
HasSomeConf library name = (loaded : Loaded) × HasConf library name loaded

-- this is the first fault of the configuration of this name
abbrev pub HasFault : Library → List ℕ → ConfFault → Type 0
HasFault library name fault = (calls : Calls) × (load library name calls ≡ Ended (Err (e.Conf fault)))

-- how a load ends, as a status: text 1 is the configuration; where memory runs out, no call was another one
abbrev pub EndsAs : Outcome → Result Loaded Status → Type 0
EndsAs outcome (Ok loaded) = outcome ≡ Ended (Ok loaded)
EndsAs outcome (Err (status.Conf fault)) = outcome ≡ Ended (Err (e.Conf fault))
EndsAs outcome (Err (status.Missing number)) = (number ≡ 1) × (outcome ≡ Ended (Err e.RootMissing))
EndsAs outcome (Err status.TextFault) = outcome ≡ Ended (Err e.RootFailed)
EndsAs outcome (Err status.NoMemory) = OnCourse outcome
EndsAs outcome (Err other) = ⊥

-- The calls that came are those of the load of the text of this name, in order, and the answer is how it ends by them;
-- where memory ran out, they are the first of them.
pub record LoadsAs (result : Result Loaded Status) (name : List ℕ) (library : Library) (before after : Calls) : Type 0 where
  pub asked : Calls
  pub calls : after ≡ with_all before asked
  pub ends : EndsAs (load library name asked) result

-- what the texts say of such an answer
abbrev pub LoadSays : Result Loaded Status → Library → List ℕ → Type 0
LoadSays (Ok loaded) library name = HasConf library name loaded
LoadSays (Err (status.Missing number)) library name = (number ≡ 1) × (library name ≡ None)
LoadSays (Err (status.Conf fault)) library name = HasFault library name fault
LoadSays (Err status.TextFault) library name = Unit {0}
LoadSays (Err status.NoMemory) library name = Unit {0}
LoadSays (Err other) library name = ⊥

-- a fault that comes from outside: a text cannot be read, or a pattern was refused
abbrev pub IsOutside : ConfKind → Type 0
IsOutside what = (what ≡ kind.TextFault) ⊎ (what ≡ kind.PatternRefused)

-- this configuration is the answer, unless a text cannot be read, a pattern was refused or memory is wanted
abbrev pub IsOnlyConf : Loaded → Result Loaded Status → Type 0
IsOnlyConf loaded (Ok found) = found ≡ loaded
IsOnlyConf loaded (Err (status.Conf fault)) = IsOutside fault.kind
IsOnlyConf loaded (Err status.TextFault) = Unit {0}
IsOnlyConf loaded (Err status.NoMemory) = Unit {0}
IsOnlyConf loaded (Err other) = ⊥

-- A fault only where the count of what failed rose: that of the texts, or that of the maker's refusals, each before and now.
abbrev pub LoadCause : Result Loaded Status → ℕ → ℕ → ℕ → ℕ → Type 0
LoadCause (Err status.TextFault) faults faults_now refusals refusals_now = Rose faults faults_now
LoadCause (Err (status.Conf fault)) faults faults_now refusals refusals_now = Caused fault.kind faults faults_now refusals refusals_now
LoadCause (Err status.Done) faults faults_now refusals refusals_now = ⊥
LoadCause (Err status.Usage) faults faults_now refusals refusals_now = ⊥
LoadCause (Err status.ListenFault) faults faults_now refusals refusals_now = ⊥
LoadCause (Err status.WaitFault) faults faults_now refusals refusals_now = ⊥
LoadCause (Err status.SinkFault) faults faults_now refusals refusals_now = ⊥
LoadCause other faults faults_now refusals refusals_now = Unit {0}
