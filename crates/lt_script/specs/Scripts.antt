-- For proofs alone: how the code reads the text of a script.
use Rattle.std.specs.Prelude.{◌≡◌, ℕ, ◌+◌, ◌<◌, ◌≤◌, Bool, true, false, List, [], ◌∷◌, ◌++◌, length, Option, Some, None, option_map, Result, Ok, Err, if◌then◌else◌, ◌==◌, codes}
use Rattle.lt_script.specs.declared.script.Script.{Script}
use Rattle.lt_script.specs.declared.script.ScriptError.{ScriptError}
use Rattle.lt_script.specs.declared.script.ScriptError.TheVariants as error
use Rattle.lt_script.specs.declared.limits.TheConstants.{SCRIPT_LIMIT}
use Rattle.lt_script.specs.declared.lines.Line.{Line}
use Rattle.lt_script.specs.declared.lines.Line.TheVariants.{Skip, File, Fault, Step}
use Rattle.lt_script.specs.Fields.{after}
use Rattle.lt_script.specs.Lines.{line_of}
use Rattle.lt_script.specs.Texts.{lines_of, first}

-- the bytes before the first line feed, and those after it
abbrev pub cut : List ℕ → Option (List ℕ × List ℕ)
cut [] = None
cut (b ∷ bytes) = if b == 10 then Some ([], bytes) else option_map (λ x. (b ∷ x.0, x.1)) (cut bytes)

-- a line in front of what the others say, where they say something
abbrev pub with_first : Line → Result Script ℕ → Result Script ℕ
with_first line (Ok script) = Ok (first line script)
with_first line (Err number) = Err number

-- the same, where the line is one of the grammar; else its number
abbrev pub with_line : Option Line → ℕ → Result Script ℕ → Result Script ℕ
with_line None number rest = Err number
with_line (Some line) number rest = with_first line rest

-- what lines from this number on say, or the first of them that says nothing
abbrev pub script_from : ℕ → List (List ℕ) → List ℕ → Result Script ℕ
script_from number [] [] = Ok (record { files = []; faults = []; steps = [] })
script_from number [] (b ∷ last) = Err number
script_from number (line ∷ lines) last = with_line (line_of line) number (script_from (number + 1) lines last)

-- nothing follows
abbrev pub is_nothing : Option (List ℕ) → Bool
is_nothing None = false
is_nothing (Some []) = true
is_nothing (Some (b ∷ bytes)) = false

-- the line is the first one of a script
abbrev pub is_head : List ℕ → Bool
is_head line = is_nothing (after (codes "lighttpd-script 1") line)

-- what the lines say, of which the first is fixed
abbrev pub script_in : List (List ℕ) → List ℕ → Result Script ℕ
script_in [] last = Err 1
script_in (line ∷ lines) last = if is_head line then script_from 2 lines last else Err 1

-- what a text says, or the number of its first line outside the grammar
unfoldable pub script_of : List ℕ → Result Script ℕ
script_of bytes = script_in (lines_of bytes).0 (lines_of bytes).1

-- a refusal is the one of the text, unless memory ran out
abbrev pub RefusesScript : ScriptError → List ℕ → Type 0
RefusesScript error.NoMemory bytes = length bytes ≤ SCRIPT_LIMIT
RefusesScript error.TooLong bytes = SCRIPT_LIMIT < length bytes
RefusesScript (error.Line number) bytes = (length bytes ≤ SCRIPT_LIMIT) × (script_of bytes ≡ Err number)

-- an answer is the one of the text
abbrev pub GivesScript : Result Script ScriptError → List ℕ → Type 0
GivesScript (Ok script) bytes = (length bytes ≤ SCRIPT_LIMIT) × (script_of bytes ≡ Ok script)
GivesScript (Err e) bytes = RefusesScript e bytes

-- what a part that was read and the rest give
abbrev pub joined : Script → Result Script ℕ → Result Script ℕ
joined front (Ok script) = Ok (record { files = front.files ++ script.files; faults = front.faults ++ script.faults; steps = front.steps ++ script.steps })
joined front (Err number) = Err number

-- a script with one more line
abbrev pub added : Script → Line → Script
added front Skip = front
added front (File file) = record front { files = front.files ++ file ∷ [] }
added front (Fault fault) = record front { faults = front.faults ++ fault ∷ [] }
added front (Step step) = record front { steps = front.steps ++ step ∷ [] }

-- a refusal after the first line is the one of the lines
abbrev pub RefusesRest : ScriptError → List ℕ → Type 0
RefusesRest error.NoMemory bytes = Unit {0}
RefusesRest error.TooLong bytes = ⊥
RefusesRest (error.Line number) bytes = script_from 2 (lines_of bytes).0 (lines_of bytes).1 ≡ Err number

-- what the lines after the first give
abbrev pub GivesRest : Result Script ScriptError → List ℕ → Type 0
GivesRest (Ok script) bytes = script_from 2 (lines_of bytes).0 (lines_of bytes).1 ≡ Ok script
GivesRest (Err e) bytes = RefusesRest e bytes
