-- What the answers of the code say.
use Rattle.std.specs.Prelude.{◌≡◌, ℕ, ◌++◌, List, [], ◌∷◌, Option, Some, None, Result, Ok, Err}
use Rattle.lt_world.specs.declared.texts.Fetch.{Fetch}
use Rattle.lt_world.specs.Causes.{Rose}
use Rattle.conditions.specs.declared.made.Asked.{Asked}
use Rattle.conf_eval.specs.declared.fault.ConfKind.{ConfKind}
use Rattle.conf_eval.specs.declared.fault.ConfKind.TheVariants as kind
use Rattle.conf_eval.specs.declared.fault.LoadError.{LoadError}
use Rattle.conf_eval.specs.declared.fault.LoadError.TheVariants as e
use Rattle.conf_eval.specs.declared.fault.Loaded.{Loaded}
use Rattle.conf_eval.specs.declared.halt.Wrong.{Wrong}
use Rattle.conf_eval.specs.Faults.{fault, kind_of}
use Rattle.conf_eval.specs.declared.halt.Halt.{Halt}
use Rattle.conf_eval.specs.declared.halt.Halt.TheVariants as halt
use Rattle.conf_eval.specs.Settings.{State}
use Rattle.conf_eval.specs.Calls.{Calls, no_calls, before}
use Rattle.conf_eval.specs.Parts.{Part, Went, Stopped}
use Rattle.conf_eval.specs.Load.{Outcome, Ended, Unended, Astray, ends, closes, has_root}

-- ---- calls

-- what is kept of calls, the newest first, after these in order
abbrev pub with_calls : {A : Type 0} → List A → List A → List A
with_calls kept [] = kept
with_calls kept (c ∷ calls) = with_calls (c ∷ kept) calls

-- the same of both
abbrev pub with_all : Calls → Calls → Calls
with_all kept calls = record { texts = with_calls kept.texts calls.texts; makes = with_calls kept.makes calls.makes }

-- what texts and a maker keep of their calls
abbrev pub kept : List Fetch → List Asked → Calls
kept texts makes = record { texts = texts; makes = makes }

-- the calls are those of the load, or the first of them: the nth is for the nth name, or pattern, and there is none
-- besides
abbrev pub OnCourse : Outcome → Type 0
OnCourse (Ended result) = Unit {0}
OnCourse Unended = Unit {0}
OnCourse Astray = ⊥

-- ---- statements

-- an answer is the one that is due, unless memory ran out
abbrev pub Is : {A : Type 0} → Result A Wrong → Result A Halt → Type 0
Is due (Ok x) = due ≡ Ok x
Is due (Err (halt.Wrong x)) = due ≡ Err x
Is due (Err halt.NoMemory) = Unit {0}

-- what is a statement's halt as an answer
abbrev pub halted : Halt → ℕ → ℕ → LoadError
halted (halt.Wrong x) file line = e.Conf (fault (kind_of x) file line)
halted halt.NoMemory file line = e.NoMemory

-- ---- parts

-- A part that made these calls comes to this, whatever calls follow. Where memory ran out, they are those that it makes, or
-- the first of them.
abbrev pub Runs : Part → State → Calls → Result (Unit {0}) LoadError → State → Type 0
Runs part old asked (Ok done) new = (others : Calls) → part old (before asked others) ≡ Went new others
Runs part old asked (Err e.NoMemory) new = OnCourse (ends (part old asked))
Runs part old asked (Err x) new = part old asked ≡ Stopped x no_calls

-- the calls that came to what was kept are those that the part makes
pub record Ran (part : Part) (old : State) (earlier later : Calls) (result : Result (Unit {0}) LoadError) (new : State) : Type 0 where
  pub asked : Calls
  pub calls : later ≡ with_all earlier asked
  pub runs : Runs part old asked result new

-- ---- the whole

-- an answer is the outcome; where memory ran out, no call was another one
abbrev pub Gives : Result Loaded LoadError → Outcome → Type 0
Gives (Err e.NoMemory) outcome = OnCourse outcome
Gives result outcome = outcome ≡ Ended result

-- what was loaded, or that the global block has no document root
abbrev pub Closes : State → Result Loaded LoadError → Type 0
Closes s result = Gives result (Ended (closes s (has_root s)))

-- The calls that came to what was kept are those of the load that is due, and no others; where memory ran out, the first
-- of them.
pub record Loads (due : Calls → Outcome) (earlier later : Calls) (result : Result Loaded LoadError) : Type 0 where
  pub asked : Calls
  pub calls : later ≡ with_all earlier asked
  pub gives : Gives result (due asked)

-- ---- causes

-- a text fails and a pattern is refused only where the count of it rose
pub record Caused (what : ConfKind) (faults_before faults_now refusals_before refusals_now : ℕ) : Type 0 where
  pub unread : what ≡ kind.TextFault → Rose faults_before faults_now
  pub refused : what ≡ kind.PatternRefused → Rose refusals_before refusals_now

-- The counts are those of the texts, before and now, and those of the maker.
abbrev pub Cause : {A : Type 0} → Result A LoadError → ℕ → ℕ → ℕ → ℕ → Type 0
Cause (Err (e.Conf fault)) faults_before faults_now refusals_before refusals_now = Caused fault.kind faults_before faults_now refusals_before refusals_now
Cause (Err e.RootFailed) faults_before faults_now refusals_before refusals_now = Rose faults_before faults_now
Cause other faults_before faults_now refusals_before refusals_now = Unit {0}
