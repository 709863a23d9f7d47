-- Marks, and the queue in which the marks that are offered wait for their turn.
use Rattle.std.specs.Prelude.{◌≡◌, ℕ, ◌+◌, ◌*◌, ◌<◌, List, [], ◌∷◌, ◌++◌, set, replicate, Option, Some, None, Bool, true, false, if◌then◌else◌, ◌==◌, slice_index_or}
use Rattle.mio_net.specs.declared.ring.Mark.{Mark}
use Rattle.mio_net.specs.declared.ring.Mark.TheVariants as mark

-- every mark has a number: two for each of the 4,096 places, and one for arrivals
abbrev pub number_of : Mark → ℕ
number_of (mark.Readable place) = 2 * place
number_of (mark.Writable place) = 2 * place + 1
number_of mark.Arrival = 8192

abbrev pub IsMark : Mark → Type 0
IsMark (mark.Readable place) = place < 4096
IsMark (mark.Writable place) = place < 4096
IsMark mark.Arrival = Unit {0}

abbrev pub stands_in : ℕ → List ℕ → Bool
stands_in n [] = false
stands_in n (m ∷ ms) = if m == n then true else stands_in n ms

-- behind all others, unless it stands there already
abbrev pub joined : ℕ → List ℕ → List ℕ
joined n ms = if stands_in n ms then ms else ms ++ n ∷ []

-- the first one leaves, where there is one
abbrev pub TakesFirst : Option ℕ → List ℕ → List ℕ → Type 0
TakesFirst None old new = (old ≡ []) × (new ≡ [])
TakesFirst (Some n) old new = old ≡ n ∷ new

pub record Turns : Type 0 where
  -- by number, whether the mark is set
  pub marks : List Bool
  -- the numbers of marks that are offered, the next one first
  pub waiting : List ℕ

abbrev pub no_turns : Turns
no_turns = record { marks = replicate 8193 false; waiting = [] }

abbrev pub is_set : ℕ → List Bool → Bool
is_set n marks = slice_index_or marks n false

-- set, and offered
abbrev pub marked : ℕ → Turns → Turns
marked n turns = record { marks = set turns.marks n true; waiting = joined n turns.waiting }

-- no longer set; where it is offered it will be passed over
abbrev pub unmarked : ℕ → Turns → Turns
unmarked n turns = record { marks = set turns.marks n false; waiting = turns.waiting }

-- offered where it is set
abbrev pub offered : ℕ → Turns → Turns
offered n turns = if is_set n turns.marks then record { marks = turns.marks; waiting = joined n turns.waiting } else turns

-- from the first one on that is set
abbrev pub from_set : List Bool → List ℕ → List ℕ
from_set marks [] = []
from_set marks (n ∷ waiting) = if is_set n marks then n ∷ waiting else from_set marks waiting

-- the first offered mark that is set leaves the queue, with those that were passed over, and stays set
abbrev pub TakesTurn : Option Mark → Turns → Turns → Type 0
TakesTurn None before after = (from_set before.marks before.waiting ≡ []) × (after ≡ record { marks = before.marks; waiting = [] })
TakesTurn (Some m) before after = (from_set before.marks before.waiting ≡ number_of m ∷ after.waiting) × (after.marks ≡ before.marks)
