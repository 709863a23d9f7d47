-- What reading the named texts may answer: what they spell, or the first refusal.
use Rattle.std.specs.Prelude.{◌≡◌, ◌≢◌, ℕ, ◌<◌, ◌≤◌, ◌⊎◌, List, ◌∷◌, length, Option, Some, None, Result, Ok, Err}
use Rattle.lt_world.specs.Causes.{Rose}
use Rattle.lt_world.specs.declared.texts.Fetch.{Fetch}
use Rattle.lt_world.specs.declared.texts.FetchKind.{FetchKind}
use Rattle.lt_world.specs.declared.texts.FetchKind.TheVariants as fetch
use Rattle.lt_script.specs.declared.script.Script.{Script}
use Rattle.lt_script.specs.declared.limits.TheConstants.{SCRIPT_LIMIT}
use Rattle.lt_script.specs.Texts.{Spells, IsBadLine}
use Rattle.conf_eval.specs.declared.fault.ConfKind.TheVariants as kind
use Rattle.lt_commands.specs.declared.status.Status.{Status}
use Rattle.lt_commands.specs.declared.status.Status.TheVariants as status

-- the text that is held spells this script, and is short enough
abbrev pub HasScript : Option (List ℕ) → Script → Type 0
HasScript held script = (text : List ℕ) × (held ≡ Some text) × (length text ≤ SCRIPT_LIMIT) × Spells text script

-- what reading a text may answer: a fault only where the count of the texts rose, and never that a pattern was refused
abbrev pub ReadCause : {A : Type 0} → Result A Status → ℕ → ℕ → Type 0
ReadCause (Err status.TextFault) before after = Rose before after
ReadCause (Err (status.Conf fault)) before after = (fault.kind ≡ kind.TextFault → Rose before after) × (fault.kind ≢ kind.PatternRefused)
ReadCause (Err status.Done) before after = ⊥
ReadCause (Err status.Usage) before after = ⊥
ReadCause (Err status.ListenFault) before after = ⊥
ReadCause (Err status.WaitFault) before after = ⊥
ReadCause (Err status.SinkFault) before after = ⊥
ReadCause other before after = Unit {0}

-- one call for a text of this name, with this answer, was made
abbrev pub AsksFor : List ℕ → FetchKind → List Fetch → List Fetch → Type 0
AsksFor name answer before after = after ≡ record { name = name; answer = answer } ∷ before

-- reading a text makes one call for its name, whose answer is the cause of a refusal; a call that itself wanted memory
-- is not kept
abbrev pub Asks : {A : Type 0} → Result A Status → List ℕ → List Fetch → List Fetch → Type 0
Asks (Ok value) name before after = AsksFor name fetch.Text before after
Asks (Err (status.Missing number)) name before after = AsksFor name fetch.Missing before after
Asks (Err status.TextFault) name before after = AsksFor name fetch.Failed before after
Asks (Err status.NoMemory) name before after = (after ≡ before) ⊎ AsksFor name fetch.Text before after
Asks (Err other) name before after = AsksFor name fetch.Text before after ⊎ AsksFor name fetch.Long before after

-- this value is the answer, unless the text cannot be read or memory is wanted
abbrev pub IsOnly : {A : Type 0} → A → Result A Status → Type 0
IsOnly value (Ok found) = found ≡ value
IsOnly value (Err status.TextFault) = Unit {0}
IsOnly value (Err status.NoMemory) = Unit {0}
IsOnly value (Err other) = ⊥

-- this line is the first outside the grammar; line 0 says that the text is too long
abbrev pub IsWrongAt : List ℕ → ℕ → Type 0
IsWrongAt text line = ((line ≡ 0) × (SCRIPT_LIMIT < length text)) ⊎ ((length text ≤ SCRIPT_LIMIT) × IsBadLine text line)

-- the script that the text under its name spells, or why there is none
abbrev pub ScriptSays : Result Script Status → Option (List ℕ) → Type 0
ScriptSays (Ok script) held = HasScript held script
ScriptSays (Err (status.Missing number)) held = (number ≡ 2) × (held ≡ None)
ScriptSays (Err (status.Script line)) held = (text : List ℕ) × (held ≡ Some text) × IsWrongAt text line
ScriptSays (Err status.TextFault) held = (text : List ℕ) × (held ≡ Some text)
ScriptSays (Err status.NoMemory) held = Unit {0}
ScriptSays (Err other) held = ⊥
