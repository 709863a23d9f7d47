-- What is answered where a configuration is loaded and its warnings are put out: the configuration, or the status.
use Rattle.std.specs.Prelude.{◌≡◌, ℕ, ◌++◌, List, Result, Ok, Err}
use Rattle.lt_world.specs.TextAnswers.{Library}
use Rattle.conf_eval.specs.declared.fault.Loaded.{Loaded}
use Rattle.lt_commands.specs.declared.status.Status.{Status}
use Rattle.lt_commands.specs.declared.status.Status.TheVariants as status
use Rattle.lt_commands.specs.Failures.{Failures}
use Rattle.lt_commands.specs.Fetching.{CheckAsks}
use Rattle.lt_commands.specs.Loading.{HasConf, LoadsAs}
use Rattle.conf_eval.specs.Calls.{Calls}
use Rattle.lt_commands.specs.Offline.{CheckSays, FaultsSay, IsCompleteLoad, SinkSays}

-- by the texts
abbrev pub WarnedSays : Result Loaded Status → Library → List ℕ → Type 0
WarnedSays (Ok loaded) library name = HasConf library name loaded
WarnedSays (Err answer) library name = CheckSays answer library name

-- this configuration is the answer, unless something fails or memory is wanted
abbrev pub IsOnlyWarned : Loaded → Result Loaded Status → Type 0
IsOnlyWarned loaded (Ok found) = found ≡ loaded
IsOnlyWarned loaded (Err answer) = IsCompleteLoad answer

-- which texts and patterns were asked for
abbrev pub WarnedAsks : Result Loaded Status → List ℕ → Library → Calls → Calls → Type 0
WarnedAsks (Ok loaded) name library before after = LoadsAs (Ok loaded) name library before after
WarnedAsks (Err answer) name library before after = CheckAsks answer name library before after

-- the status is that of a refusal, and of a fault only where the count of what failed rose
abbrev pub WarnedFaults : Result Loaded Status → Failures → Failures → Type 0
WarnedFaults (Ok loaded) before after = Unit {0}
WarnedFaults (Err status.Done) before after = ⊥
WarnedFaults (Err status.Usage) before after = ⊥
WarnedFaults (Err status.ListenFault) before after = ⊥
WarnedFaults (Err status.WaitFault) before after = ⊥
WarnedFaults (Err answer) before after = FaultsSay answer before after

-- the sink got these warnings, or the front of them where it failed, and nothing at any other status
abbrev pub WarnedTo : Result Loaded Status → List ℕ → List ℕ → List ℕ → Type 0
WarnedTo (Ok loaded) lines before after = after ≡ before ++ lines
WarnedTo (Err answer) lines before after = SinkSays answer lines before after
