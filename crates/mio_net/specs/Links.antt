-- The open links, each at the place that its number gives.
use Rattle.std.specs.Prelude.{◌≡◌, ℕ, ◌+◌, ◌%◌, ◌^◌, ◌<◌, ◌≤◌, List, set, replicate, Option, Some, None, IsSome, is_some, if◌then◌else◌, slice_index_or, sum_by, ◌⊎◌}

pub record Links : Type 0 where
  -- by place, the number of the link that is open there
  pub places : List (Option ℕ)
  -- above every number so far
  pub next : ℕ

abbrev pub no_links : Links
no_links = record { places = replicate 4096 None; next = 0 }

-- a number has one place, which it shares with every 4,096th other number
abbrev pub place_of : ℕ → ℕ
place_of number = number % 4096

abbrev pub at : ℕ → Links → Option ℕ
at place links = slice_index_or links.places place None

-- the link of this number is open
abbrev pub IsOpen : ℕ → Links → Type 0
IsOpen number links = at (place_of number) links ≡ Some number

abbrev pub one : Option ℕ → ℕ
one held = if is_some held then 1 else 0

-- how many links are open
abbrev pub count : Links → ℕ
count links = sum_by one links.places

-- the place of an open link; a link that is not open has none
abbrev pub Finds : ℕ → Option ℕ → Links → Type 0
Finds number None links = IsOpen number links → ⊥
Finds number (Some place) links = (place ≡ place_of number) × IsOpen number links

-- every number from one up to another has a place that is taken
abbrev pub AreTaken : ℕ → ℕ → Links → Type 0
AreTaken from up_to links = (number : ℕ) → from ≤ number → number < up_to → IsSome (at (place_of number) links)

-- the first number from the next one on whose place is free; none where 514 links are open, and none where none is left
-- below 2^32
abbrev pub FindsFree : Option ℕ → Links → Type 0
FindsFree None links = (514 ≤ count links) ⊎ AreTaken links.next (2 ^ 32) links
FindsFree (Some number) links = (links.next ≤ number) × (number < 2 ^ 32) × (at (place_of number) links ≡ None) × AreTaken links.next number links × (count links < 514)

abbrev pub opened : ℕ → Links → Links
opened number links = record { places = set links.places (place_of number) (Some number); next = number + 1 }

abbrev pub closed : ℕ → Links → Links
closed place links = record { places = set links.places place None; next = links.next }
