-- How many bytes writes offer.
use Rattle.std.specs.Prelude.{◌≡◌, ℕ, List, [], ◌∷◌, ◌++◌, ◌==◌, if◌then◌else◌}
use Rattle.lt_world.specs.Trace.{Act, Entry, Wrote}
use Rattle.server_model.specs.Held.{Held}

-- the number beside a link of the table
abbrev pub offer_at : ℕ → List Held → List ℕ → ℕ
offer_at link [] offers = 0
offer_at link (held ∷ table) [] = 0
offer_at link (held ∷ table) (n ∷ offers) = if held.link == link then n else offer_at link table offers

-- what is said of the link and of how many bytes were offered, where the act is a write
abbrev pub WritesAs : (ℕ → ℕ → Type 0) → ℕ → Act → Type 0
WritesAs Offers link (Wrote offered bytes) = Offers link offered
WritesAs Offers link act = Unit {0}

-- this is said of each entry
abbrev pub AllAs : (ℕ → Act → Type 0) → List Entry → Type 0
AllAs Says [] = Unit {0}
AllAs Says (entry ∷ entries) = Says entry.link entry.act × AllAs Says entries

-- a trace gains entries, and this is said of each among them
pub record GainsAs (Says : ℕ → Act → Type 0) (old now : List Entry) : Type 0 where
  pub more : List Entry
  pub gains : now ≡ more ++ old
  pub each : AllAs Says more

-- and this of how many bytes were offered by each write among them
abbrev pub GainsWrites : (ℕ → ℕ → Type 0) → List Entry → List Entry → Type 0
GainsWrites Offers old now = GainsAs (WritesAs Offers) old now

-- on this link so many bytes are offered
abbrev pub OffersOn : ℕ → ℕ → ℕ → ℕ → Type 0
OffersOn link n l offered = (l ≡ link) × (offered ≡ n)

-- on each link of the table as many as are said of it
abbrev pub OffersIn : List Held → List ℕ → ℕ → ℕ → Type 0
OffersIn table offers link offered = offered ≡ offer_at link table offers
