-- A script as text (README.md of this crate, 'The format').
use Rattle.std.specs.Prelude.{List, ℕ, ◌++◌, flat_map, codes}
use Rattle.std.specs.Fmt.{decimal}
use Rattle.lt_bytes.specs.Quoting.{quoted}
use Rattle.lt_script.specs.declared.script.Script.{Script}
use Rattle.lt_script.specs.declared.script.ScriptFile.{ScriptFile}
use Rattle.lt_script.specs.declared.script.ScriptFile.TheVariants as file
use Rattle.lt_script.specs.declared.script.ScriptFault.{ScriptFault}
use Rattle.lt_script.specs.declared.script.Step.{Step}
use Rattle.lt_script.specs.declared.script.Step.TheVariants as step
use Rattle.lt_script.specs.Grammar.{name_text, address_text, call_text}

-- the line of a file or a directory
abbrev pub file_text : ScriptFile → List ℕ
file_text (file.Bytes path time bytes) = codes "file \"" ++ (quoted path ++ (codes "\" " ++ (decimal time ++ (codes " \"" ++ (quoted bytes ++ codes "\"")))))
file_text (file.Fill path time size) = codes "fill \"" ++ (quoted path ++ (codes "\" " ++ (decimal time ++ (codes " " ++ decimal size))))
file_text (file.Dir path) = codes "dir \"" ++ (quoted path ++ codes "\"")

-- the line of a fault
abbrev pub fault_text : ScriptFault → List ℕ
fault_text fault = codes "fault " ++ (call_text fault.call ++ (codes " " ++ decimal fault.nth))

-- the line of a step
abbrev pub step_text : Step → List ℕ
step_text (step.Accept peer local) = codes "accept " ++ (address_text peer ++ (codes " " ++ address_text local))
step_text (step.Bytes link bytes) = codes "data " ++ (name_text link ++ (codes " \"" ++ (quoted bytes ++ codes "\"")))
step_text (step.Pour link size) = codes "pour " ++ (name_text link ++ (codes " " ++ decimal size))
step_text (step.End link) = codes "end " ++ name_text link
step_text (step.Ready link count) = codes "ready " ++ (name_text link ++ (codes " " ++ decimal count))
step_text (step.ReadFail link) = codes "rfail " ++ name_text link
step_text (step.Take link size count) = codes "take " ++ (name_text link ++ (codes " " ++ (decimal size ++ (codes " " ++ decimal count))))
step_text (step.WriteFail link) = codes "wfail " ++ name_text link
step_text step.Idle = codes "idle"

-- a line and its line feed
abbrev pub with_feed : List ℕ → List ℕ
with_feed line = line ++ codes "\n"

-- the lines of the files
abbrev pub printed_files : List ScriptFile → List ℕ
printed_files files = flat_map (λ f. with_feed (file_text f)) files

-- the lines of the faults
abbrev pub printed_faults : List ScriptFault → List ℕ
printed_faults faults = flat_map (λ f. with_feed (fault_text f)) faults

-- the lines of the steps
abbrev pub printed_steps : List Step → List ℕ
printed_steps steps = flat_map (λ s. with_feed (step_text s)) steps

-- the first line, the files, the faults, and then the steps
abbrev pub printed : Script → List ℕ
printed script = with_feed (codes "lighttpd-script 1") ++ (printed_files script.files ++ (printed_faults script.faults ++ printed_steps script.steps))
