-- What reading all bytes of a source answers.
use Rattle.std.specs.Prelude.{◌≡◌, ℕ, ◌<◌, ◌≤◌, List, length}
use Rattle.lt_world.specs.declared.texts.Fetched.{Fetched}
use Rattle.lt_world.specs.declared.texts.Fetched.TheVariants as fetched

-- all its bytes, where they are at most `max`; it says that they are too many exactly where they are
abbrev pub IsWhole : Fetched → Type 0 → ℕ → List ℕ → Type 0
IsWhole (fetched.Text text) tells max bytes = (length text ≤ max) × (tells → text ≡ bytes)
IsWhole fetched.Long tells max bytes = tells → max < length bytes
IsWhole fetched.Missing tells max bytes = ⊥
IsWhole fetched.Failed tells max bytes = Unit {0}
IsWhole fetched.NoMemory tells max bytes = Unit {0}
