-- What texts hold, what was asked of them, and what their answers mean (src/texts.rt, the trait `Texts`).
use Rattle.std.specs.Prelude.{◌≡◌, ℕ, ◌<◌, ◌≤◌, List, ◌∷◌, length, Option, Some, None}
use Rattle.lt_world.specs.declared.texts.Fetched.{Fetched}
use Rattle.lt_world.specs.declared.texts.Fetched.TheVariants as fetched
use Rattle.lt_world.specs.declared.texts.FetchKind.TheVariants as kind
use Rattle.lt_world.specs.declared.texts.Fetch.{Fetch}
use Rattle.lt_world.specs.Causes.{Rose}

-- the bytes under each name
abbrev pub Library : Type 0
Library = List ℕ → Option (List ℕ)

-- a call that answers for want of memory isn't kept
abbrev pub fetch_keeps : Fetched → List ℕ → List Fetch → List Fetch
fetch_keeps (fetched.Text text) name calls = record { name = name; answer = kind.Text } ∷ calls
fetch_keeps fetched.Missing name calls = record { name = name; answer = kind.Missing } ∷ calls
fetch_keeps fetched.Long name calls = record { name = name; answer = kind.Long } ∷ calls
fetch_keeps fetched.Failed name calls = record { name = name; answer = kind.Failed } ∷ calls
fetch_keeps fetched.NoMemory name calls = calls

-- Missing and Long come exactly where they hold, so a failure only where neither does
abbrev pub FetchRight : Fetched → ℕ → Option (List ℕ) → Type 0
FetchRight (fetched.Text text) max held = (held ≡ Some text) × (length text ≤ max)
FetchRight fetched.Missing max held = held ≡ None
FetchRight fetched.Long max held = (bytes : List ℕ) × (held ≡ Some bytes) × (max < length bytes)
FetchRight fetched.Failed max held = (bytes : List ℕ) × (held ≡ Some bytes) × (length bytes ≤ max)
FetchRight fetched.NoMemory max held = Unit {0}

-- a text has no more bytes than were allowed
abbrev pub FetchWithin : Fetched → ℕ → Type 0
FetchWithin (fetched.Text text) max = length text ≤ max
FetchWithin answer max = Unit {0}

-- a fetch fails only where the count rose
abbrev pub FetchCause : Fetched → ℕ → ℕ → Type 0
FetchCause fetched.Failed before now = Rose before now
FetchCause answer before now = Unit {0}
