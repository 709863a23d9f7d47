-- How many bytes reads ask for.
use Rattle.std.specs.Prelude.{◌≡◌, ℕ, List, [], ◌∷◌, ◌==◌, min, if◌then◌else◌}
use Rattle.lt_world.specs.Trace.{Act, Entry, Read}
use Rattle.server_model.specs.Held.{Held}
use Rattle.server_model.specs.Steps.{room_of}
use Rattle.server_core.specs.Offers.{GainsAs}

-- a read asks for all that may be held of the client's input besides what is, but for one buffer at most
abbrev pub asked_of : Held → ℕ
asked_of held = min (room_of held) 4096

-- the same of the client with this link
abbrev pub asked_at : ℕ → List Held → ℕ
asked_at link [] = 0
asked_at link (held ∷ table) = if held.link == link then asked_of held else asked_at link table

-- what is said of the link and of how many bytes were asked for, where the act is a read
abbrev pub ReadsAs : (ℕ → ℕ → Type 0) → ℕ → Act → Type 0
ReadsAs Asks link (Read asked bytes) = Asks link asked
ReadsAs Asks link act = Unit {0}

-- a trace gains entries, and this holds of how many bytes were asked for by each read among them
abbrev pub GainsReads : (ℕ → ℕ → Type 0) → List Entry → List Entry → Type 0
GainsReads Asks old now = GainsAs (ReadsAs Asks) old now

-- on this link so many bytes are asked for
abbrev pub AsksOn : ℕ → ℕ → ℕ → ℕ → Type 0
AsksOn link n l asked = (l ≡ link) × (asked ≡ n)

-- on each link of the table as many as its client leaves room for
abbrev pub AsksIn : List Held → ℕ → ℕ → Type 0
AsksIn table link asked = asked ≡ asked_at link table
