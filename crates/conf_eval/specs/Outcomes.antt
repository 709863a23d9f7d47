-- What the laws on loading speak of (src/laws.rt), and what a load says of its first call.
use Rattle.std.specs.Prelude.{◌≡◌, ◌≢◌, ◌⊎◌, ℕ, List, [], ◌∷◌, ◌++◌, Result, Ok, Err}
use Rattle.lt_world.specs.declared.texts.Fetch.{Fetch}
use Rattle.lt_world.specs.declared.texts.FetchKind.{FetchKind}
use Rattle.lt_world.specs.declared.texts.FetchKind.TheVariants as call
use Rattle.conditions.specs.declared.made.Asked.{Asked}
use Rattle.conditions.specs.declared.made.MadeKind.TheVariants as made
use Rattle.conf_eval.specs.declared.fault.ConfKind.TheVariants as kind
use Rattle.conf_eval.specs.declared.fault.LoadError.{LoadError}
use Rattle.conf_eval.specs.declared.fault.LoadError.TheVariants as e
use Rattle.conf_eval.specs.declared.fault.Loaded.{Loaded}
use Rattle.conf_eval.specs.Calls.{Calls}
use Rattle.conf_eval.specs.Answers.{with_calls}

-- no call on the texts failed
abbrev pub NoneFailed : List Fetch → Type 0
NoneFailed [] = Unit {0}
NoneFailed (c ∷ calls) = (c.answer ≢ call.Failed) × NoneFailed calls

-- no pattern was refused
abbrev pub NoneRefused : List Asked → Type 0
NoneRefused [] = Unit {0}
NoneRefused (m ∷ makes) = (m.answer ≢ made.Refused) × NoneRefused makes

-- neither of these
pub record AllAnswered (calls : Calls) : Type 0 where
  pub read : NoneFailed calls.texts
  pub made : NoneRefused calls.makes

-- a text could not be read
abbrev pub IsUnread : LoadError → Type 0
IsUnread (e.Conf fault) = fault.kind ≡ kind.TextFault
IsUnread e.RootFailed = Unit {0}
IsUnread other = ⊥

abbrev pub EndsUnread : Result Loaded LoadError → Type 0
EndsUnread (Ok loaded) = ⊥
EndsUnread (Err x) = IsUnread x

-- a pattern was refused
abbrev pub IsRefused : LoadError → Type 0
IsRefused (e.Conf fault) = fault.kind ≡ kind.PatternRefused
IsRefused other = ⊥

abbrev pub EndsRefused : Result Loaded LoadError → Type 0
EndsRefused (Ok loaded) = ⊥
EndsRefused (Err x) = IsRefused x

-- a call for this name
abbrev pub asking : List ℕ → FetchKind → Fetch
asking name answer = record { name = name; answer = answer }

-- one call was made, for this name, and its answer is such
pub record IsOnly (Such : FetchKind → Type 0) (name : List ℕ) (calls : Calls) : Type 0 where
  pub answer : FetchKind
  pub texts_are : calls.texts ≡ asking name answer ∷ []
  pub makes_are : calls.makes ≡ []
  pub such : Such answer

-- the maker's last call was refused
pub record EndsInRefusal (makes : List Asked) : Type 0 where
  pub earlier : List Asked
  pub last : Asked
  pub makes_are : makes ≡ earlier ++ last ∷ []
  pub refused : last.answer ≡ made.Refused

-- the first call was for this name and got its text
pub record Opens (name : List ℕ) (before after : List Fetch) : Type 0 where
  pub others : List Fetch
  pub calls_are : after ≡ with_calls (asking name call.Text ∷ before) others

-- The first call that a load made: it is the only one where the text is missing, or can't be read, or is too long.
abbrev pub FirstSays : {A : Type 0} → Result A LoadError → List ℕ → List Fetch → List Fetch → Type 0
FirstSays (Ok done) name before after = Opens name before after
FirstSays (Err (e.Conf fault)) name before after = Opens name before after ⊎ (after ≡ asking name call.Long ∷ before)
FirstSays (Err e.RootMissing) name before after = after ≡ asking name call.Missing ∷ before
FirstSays (Err e.RootFailed) name before after = after ≡ asking name call.Failed ∷ before
FirstSays (Err e.NoMemory) name before after = Unit {0}
