-- The lines that the program does without sockets (`command_words`, `Line`).
use Rattle.std.specs.Prelude.{◌≡◌, ℕ, List, Some}
use Rattle.command_words.specs.Lines.{line_of, Line as WordsLine, Replay as replay, Check as check, Print as print, Bench as bench}
use Rattle.lt_commands.specs.declared.status.Status.{Status}
use Rattle.lt_commands.specs.declared.status.Status.TheVariants as status

pub data Line : Type 0 where
  -- plays the script of this name with the configuration of that one
  Replay : List ℕ → List ℕ → Line
  -- checks the configuration of this name
  Check : List ℕ → Line
  -- prints the configuration of this name
  Print : List ℕ → Line
  -- serves so many clients of a script that is generated for them
  Bench : ℕ → Line

-- among all lines of the program
abbrev pub as_words : Line → WordsLine
as_words (Replay conf script) = replay conf script
as_words (Check conf) = check conf
as_words (Print conf) = print conf
as_words (Bench clients) = bench clients

-- the words are this line, each as its bytes
abbrev pub SpellsLine : List (List ℕ) → Line → Type 0
SpellsLine words line = line_of words ≡ Some (as_words line)

-- why words give no line: they are none of these, or can't be read for want of memory
abbrev pub IsNoLine : Status → List (List ℕ) → Type 0
IsNoLine status.Usage words = (line : Line) → ¬ SpellsLine words line
IsNoLine status.NoMemory words = Unit {0}
IsNoLine other words = ⊥
