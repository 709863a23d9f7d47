-- The faults of files that a script plans, and what they mean for a run.
use Rattle.std.specs.Prelude.{◌≡◌, List, Bool, true, false}
use Rattle.std.specs.List.{list_any}
use Rattle.lt_world.specs.FileRuns.{Leads}
use Rattle.lt_world.specs.Memory.{Stored, no_files}
use Rattle.lt_script.specs.declared.script.ScriptFault.{ScriptFault}
use Rattle.lt_script.specs.declared.script.FaultCall.{FaultCall}
use Rattle.lt_script.specs.declared.script.FaultCall.TheVariants as call
use Rattle.script_net.specs.Loads.{faulted}
use Rattle.lt_commands.specs.Runs.{Asked, asked_of}

-- a call on the files
abbrev pub is_of_files : FaultCall → Bool
is_of_files call.Find = true
is_of_files call.Open = true
is_of_files call.File = true
is_of_files other = false

-- no call on the files is to fail
abbrev pub AreNotOfFiles : List ScriptFault → Type 0
AreNotOfFiles faults = list_any (λ fault. is_of_files fault.call) faults ≡ false

-- nothing was asked of these files, and exactly these faults are planned
abbrev pub ArePlanned : List ScriptFault → Stored → Type 0
ArePlanned faults files = files ≡ faulted faults (record no_files { places = files.places })

-- calls of which exactly those fail that are planned lead from such files to files that were asked for this
pub record FailsAsPlanned (faults : List ScriptFault) (left : Asked) : Type 0 where
  pub before : Stored
  pub after : Stored
  pub begins : ArePlanned faults before
  pub leads : Leads before after
  pub left_is : asked_of after ≡ left
