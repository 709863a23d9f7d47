-- Parts of a load. Each takes what was loaded so far and the calls that are still to come, on the texts and on the maker
-- of patterns, and hands on what it leaves of them.
use Rattle.std.specs.Prelude.{ℕ, List, [], ◌∷◌, ◌++◌, Bool, true, false, if◌then◌else◌, length, nat_le, Option, Some, None}
use Rattle.std.specs.Str.{bytes_eq}
use Rattle.lt_world.specs.declared.texts.Fetch.{Fetch}
use Rattle.lt_world.specs.declared.texts.FetchKind.{FetchKind}
use Rattle.lt_world.specs.declared.texts.FetchKind.TheVariants as call
use Rattle.lt_world.specs.declared.texts.Fetched.{Fetched}
use Rattle.lt_world.specs.declared.texts.Fetched.TheVariants as fetched
use Rattle.conditions.specs.declared.made.Asked.{Asked}
use Rattle.conditions.specs.declared.made.MadeKind.{MadeKind}
use Rattle.conditions.specs.declared.made.MadeKind.TheVariants as made
use Rattle.conf_value.specs.declared.value.Pair.{Pair}
use Rattle.conf_eval.specs.declared.fault.ConfKind.{ConfKind}
use Rattle.conf_eval.specs.declared.fault.ConfKind.TheVariants as kind
use Rattle.conf_eval.specs.declared.fault.LoadError.{LoadError}
use Rattle.conf_eval.specs.declared.fault.LoadError.TheVariants as e
use Rattle.conf_eval.specs.declared.limits.TheConstants.{MAX_PATTERNS}
use Rattle.conf_eval.specs.Faults.{fault}
use Rattle.conf_eval.specs.Values.{Text}
use Rattle.conf_eval.specs.Settings.{State, pattern_of}
use Rattle.conf_eval.specs.Calls.{Calls}

-- What a part of a load comes to, with the calls that are still to come; or one is due where all are at an end (`Short`);
-- or they are not the calls of this load.
pub data Reply : Type 0 where
  Went : State → Calls → Reply
  Stopped : LoadError → Calls → Reply
  Short : Reply
  Strayed : Reply

abbrev pub Part : Type 0
Part = State → Calls → Reply

-- a part, and what comes after it unless it stops
abbrev pub goes_on : Reply → Part → Reply
goes_on (Went s calls) next = next s calls
goes_on (Stopped x calls) next = Stopped x calls
goes_on Short next = Short
goes_on Strayed next = Strayed

-- a fault
abbrev pub fails : ConfKind → ℕ → ℕ → Calls → Reply
fails what file line calls = Stopped (e.Conf (fault what file line)) calls

-- one side has no call left where one is due: so may the other have none
abbrev pub awaits : {A : Type 0} → List A → Reply
awaits [] = Short
awaits (c ∷ calls) = Strayed

-- ---- texts

-- what a fetch gives: it failed, or the text is missing, too long or there
abbrev pub held_as : Option Text → ℕ → Fetched
held_as None room = fetched.Missing
held_as (Some bytes) room = if nat_le (length bytes) room then fetched.Text bytes else fetched.Long

abbrev pub gives : FetchKind → Option Text → ℕ → Fetched
gives call.Failed held room = fetched.Failed
gives other held room = held_as held room

-- the next call on the texts is for this name, under which they hold this
abbrev pub fetches_in : (Fetched → Part) → Option Text → Text → State → List Fetch → List Asked → Reply
fetches_in after held name s [] makes = awaits makes
fetches_in after held name s (c ∷ texts) makes =
    if bytes_eq c.name name then after (gives c.answer held s.room) s (record { texts = texts; makes = makes }) else Strayed

abbrev pub fetches : (Fetched → Part) → Option Text → Text → Part
fetches after held name s calls = fetches_in after held name s calls.texts calls.makes

-- ---- patterns

-- one more pattern, which is a rule's or a condition's
abbrev pub with_pattern : Text → Bool → State → State
with_pattern text rule s = record s { patterns = s.patterns ++ (text, rule) ∷ [] }

abbrev pub made_by : ℕ → ℕ → Bool → Text → MadeKind → Part
made_by file line rule text made.Pattern s calls = Went (with_pattern text rule s) calls
made_by file line rule text made.Refused s calls = fails kind.PatternRefused file line calls

-- the maker's next call is for this text
abbrev pub makes_in : ℕ → ℕ → Bool → Text → State → List Fetch → List Asked → Reply
makes_in file line rule text s texts [] = awaits texts
makes_in file line rule text s texts (m ∷ makes) =
    if bytes_eq m.text text then made_by file line rule text m.answer s (record { texts = texts; makes = makes }) else Strayed

-- a pattern is made of this text; there may be 48 of them
abbrev pub makes : ℕ → ℕ → Bool → Text → Part
makes file line rule text s calls =
    if nat_le MAX_PATTERNS (length s.patterns) then fails kind.TooMany file line calls else makes_in file line rule text s calls.texts calls.makes

-- the patterns of these rules, in order
abbrev pub makes_rules : ℕ → ℕ → List Pair → Part
makes_rules file line [] s calls = Went s calls
makes_rules file line (rule ∷ rules) s calls = goes_on (makes file line true (pattern_of rule) s calls) (makes_rules file line rules)
