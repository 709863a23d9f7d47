-- The grammar of a script's text (README.md of this crate, 'The format').
use Rattle.std.specs.Prelude.{◌≡◌, ℕ, ◌+◌, ◌<◌, List, [], ◌∷◌, length, ◌⊎◌, codes, Result, Ok, Err, if◌then◌else◌, ◌==◌}
use Rattle.lt_script.specs.declared.script.Script.{Script}
use Rattle.lt_script.specs.declared.script.ScriptError.{ScriptError}
use Rattle.lt_script.specs.declared.script.ScriptError.TheVariants as error
use Rattle.lt_script.specs.declared.lines.Line.{Line}
use Rattle.lt_script.specs.declared.lines.Line.TheVariants.{Skip, File, Fault, Step}
use Rattle.lt_script.specs.Grammar.{IsLine}

-- a byte in front of the first line
abbrev pub in_front : ℕ → List (List ℕ) × List ℕ → List (List ℕ) × List ℕ
in_front b ([], last) = ([], b ∷ last)
in_front b ((line ∷ lines), last) = ((b ∷ line) ∷ lines, last)

-- the lines, each without its line feed, and what follows the last line feed
abbrev pub lines_of : List ℕ → List (List ℕ) × List ℕ
lines_of [] = ([], [])
lines_of (b ∷ bytes) = if b == 10 then ([] ∷ (lines_of bytes).0, (lines_of bytes).1) else in_front b (lines_of bytes)

-- the bytes of each line say the item
abbrev pub AreLines : List (List ℕ) → List Line → Type 0
AreLines [] [] = Unit {0}
AreLines (line ∷ lines) (item ∷ items) = IsLine item line × AreLines lines items
AreLines lines items = ⊥

-- a line in front of a script
abbrev pub first : Line → Script → Script
first Skip script = script
first (File file) script = record script { files = file ∷ script.files }
first (Fault fault) script = record script { faults = fault ∷ script.faults }
first (Step step) script = record script { steps = step ∷ script.steps }

-- the files, the faults and the steps of lines, each kind in its order
abbrev pub gathered : List Line → Script
gathered [] = record { files = []; faults = []; steps = [] }
gathered (item ∷ items) = first item (gathered items)

-- the text is the first line, and then lines of the grammar that say this, each ended by a line feed
pub record Spells (bytes : List ℕ) (script : Script) : Type 0 where
  pub lines : List (List ℕ)
  pub items : List Line
  pub cut : lines_of bytes ≡ (codes "lighttpd-script 1" ∷ lines, [])
  pub each : AreLines lines items
  pub gives : script ≡ gathered items

-- the line is outside the grammar
abbrev pub NoLine : List ℕ → Type 0
NoLine line = (item : Line) → IsLine item line → ⊥

-- the first of these lines outside the grammar, where they are numbered from here; what no line feed ends is outside
abbrev pub IsBadAt : ℕ → List (List ℕ) → List ℕ → ℕ → Type 0
IsBadAt number [] last bad = (bad ≡ number) × (0 < length last)
IsBadAt number (line ∷ lines) last bad = ((bad ≡ number) × NoLine line) ⊎ (((item : Line) × IsLine item line) × IsBadAt (number + 1) lines last bad)

-- the first line of these outside the grammar, where the first of all is fixed
abbrev pub IsBadFrom : List (List ℕ) → List ℕ → ℕ → Type 0
IsBadFrom [] last bad = bad ≡ 1
IsBadFrom (head ∷ lines) last bad = ((bad ≡ 1) × (head ≡ codes "lighttpd-script 1" → ⊥)) ⊎ ((head ≡ codes "lighttpd-script 1") × IsBadAt 2 lines last bad)

-- the first line of a text that is outside the grammar
abbrev pub IsBadLine : List ℕ → ℕ → Type 0
IsBadLine bytes bad = IsBadFrom (lines_of bytes).0 (lines_of bytes).1 bad

-- where a refusal names a line, it is this fact's line
abbrev pub OnLineError : ScriptError → (ℕ → Type 0) → Type 0
OnLineError (error.Line number) P = P number
OnLineError other P = Unit {0}

-- the refusal says that memory ran out
abbrev pub IsWantOfMemory : ScriptError → Type 0
IsWantOfMemory error.NoMemory = Unit {0}
IsWantOfMemory other = ⊥

-- this script, unless memory ran out
abbrev pub IsRead : Result Script ScriptError → Script → Type 0
IsRead (Ok read) script = read ≡ script
IsRead (Err e) script = IsWantOfMemory e

-- this line is named, unless memory ran out
abbrev pub IsRefusedAt : Result Script ScriptError → ℕ → Type 0
IsRefusedAt (Err (error.Line number)) bad = number ≡ bad
IsRefusedAt (Err e) bad = IsWantOfMemory e
IsRefusedAt (Ok read) bad = ⊥
