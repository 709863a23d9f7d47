-- What a maker of patterns answers for a text.
use Rattle.std.specs.Prelude.{◌≡◌, ◌⊎◌, ℕ, List, [], ◌∷◌, Option, Some, None}
use Rattle.lt_world.specs.Causes.{Rose}
use Rattle.lt_world.specs.Plans.{next}
use Rattle.conditions.specs.Groups.{IsPatternOf}
use Rattle.conditions.specs.declared.made.Made.{Made}
use Rattle.conditions.specs.declared.made.Made.TheVariants as made
use Rattle.conditions.specs.declared.made.Asked.{Asked}
use Rattle.conditions.specs.declared.made.MadeKind.{MadeKind}
use Rattle.conditions.specs.declared.made.MadeKind.TheVariants as kind

-- a pattern is what the grammar reads in the text
abbrev pub MadeRight : List ℕ → Made → Type 0
MadeRight text (made.Pattern r) = IsPatternOf text r
MadeRight text made.Refused = Unit {0}
MadeRight text made.NoMemory = Unit {0}

-- a call that answers for want of memory isn't kept
abbrev pub made_keeps : Made → List ℕ → List Asked → List Asked
made_keeps (made.Pattern r) text calls = record { text = text; answer = kind.Pattern } ∷ calls
made_keeps made.Refused text calls = record { text = text; answer = kind.Refused } ∷ calls
made_keeps made.NoMemory text calls = calls

-- a text is refused only where the count rose
abbrev pub MadeCause : Made → ℕ → ℕ → Type 0
MadeCause made.Refused before now = Rose before now
MadeCause answer before now = Unit {0}

-- the kind of an answer, but for want of memory
abbrev pub kind_of : Made → Option MadeKind
kind_of (made.Pattern r) = Some kind.Pattern
kind_of made.Refused = Some kind.Refused
kind_of made.NoMemory = None

-- what a maker was asked, the newest first, and how often it refused
pub record Record : Type 0 where
  pub calls : List Asked
  pub refusals : ℕ

abbrev pub nothing_asked : Record
nothing_asked = record { calls = []; refusals = 0 }

-- what stands there after a call
abbrev pub after_make : Made → List ℕ → Record → Record
after_make (made.Pattern r) text old = record { calls = made_keeps (made.Pattern r) text old.calls; refusals = old.refusals }
after_make made.Refused text old = record { calls = made_keeps made.Refused text old.calls; refusals = next old.refusals }
after_make made.NoMemory text old = old

-- the answer is the one that was made, or there was no memory
abbrev pub SameOrNone : Made → Made → Type 0
SameOrNone before now = (now ≡ before) ⊎ (now ≡ made.NoMemory)
